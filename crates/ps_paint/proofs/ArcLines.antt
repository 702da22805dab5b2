-- The lines of arcs.
use Rattle.std.proofs.Common.{◌≡◌, true, ℤ, pos, negsuc, [], ◌∷◌, refl, arith, codes, int_div}
use Rattle.std.proofs.Math.IntN.{◌+ℤ◌, ◌-ℤ◌}
use Rattle.std.proofs.lemmas.Int.{ints}
use Rattle.std.specs.Int.Signed.{◌≤ℤ◌}
use Rattle.ps_text.specs.Range.{IsNumber, IsSpan, IsStretch}
use Rattle.ps_text.specs.Line.{arc_line, points, ends_of, quarter}
use Rattle.ps_text.specs.Document.{mark_text}
use Rattle.ps_text.specs.declared.sheet.Frame.{Frame}
use Rattle.ps_text.specs.declared.marks.PageMark.{PageMark}
use Rattle.ps_steps.specs.State.{Names}
use Rattle.ps_steps.specs.Operators.{all_near}
use Rattle.ps_paint.specs.PaintOf.{mark_paints}
use Rattle.ps_paint.proofs.Bodies.{Made}
use Rattle.ps_paint.proofs.Scales.{from_zero}
use Rattle.ps_paint.proofs.Runs.{both_runs}
use Rattle.ps_paint.proofs.Draws.{moves, curves, strokes}
use Rattle.ps_paint.proofs.Lines.{Draws, line_drawn, page_near}

record IsPart (d e : ℤ) : Type 0 where
  low : pos 0 ≤ℤ e
  high : e ≤ℤ d

part_of : (d : ℤ) → pos 0 ≤ℤ d → IsPart d (int_div d (pos 4))
part_of (pos n) l = record { low = omega (arith, ints); high = omega (arith, ints) }
part_of (negsuc n) l = absurd (omega (arith, ints))

-- a quarter of the way is between the ends
quarter_left : (x1 x2 : ℤ) → IsStretch x1 x2 → IsNumber (x1 +ℤ quarter x1 x2)
quarter_left x1 x2 s =
    let r = s.rising in
    let a = s.first in
    let b = s.last in
    let p = part_of (x2 -ℤ x1) (omega (arith, ints)) in
    record { low = omega (arith, ints); high = omega (arith, ints) }

quarter_right : (x1 x2 : ℤ) → IsStretch x1 x2 → IsNumber (x2 -ℤ quarter x1 x2)
quarter_right x1 x2 s =
    let r = s.rising in
    let a = s.first in
    let b = s.last in
    let p = part_of (x2 -ℤ x1) (omega (arith, ints)) in
    record { low = omega (arith, ints); high = omega (arith, ints) }

pub arc_drawn : {f : Frame} {ds : Names} (made : Made f ds) (y x1 x2 from to bulge : ℤ) → IsSpan y x1 x2 from to bulge
    → Draws f ds (mark_text y (PageMark.Arc x1 x2 from to bulge)) (mark_paints f y (PageMark.Arc x1 x2 from to bulge))
unfolding mark_text arc_line points ends_of
arc_drawn made y x1 x2 from to bulge s =
    let a = y +ℤ from in
    let b = y +ℤ to in
    let p = x1 +ℤ quarter x1 x2 in
    let q = x2 -ℤ quarter x1 x2 in
    let zs = p ∷ (a +ℤ bulge) ∷ q ∷ (b +ℤ bulge) ∷ x2 ∷ b ∷ x1 ∷ a ∷ [] in
    let np = quarter_left x1 x2 s.stretch in
    let nq = quarter_right x1 x2 s.stretch in
    let n1 = s.stretch.first in
    let n2 = s.stretch.last in
    let na = s.left.point in
    let nb = s.right.point in
    let nu = s.left.above in let nv = s.right.above in
    let near : all_near zs ≡ true = rw (
      page_near p np,
      page_near (a +ℤ bulge) nu,
      page_near q nq,
      page_near (b +ℤ bulge) nv,
      page_near x2 n2,
      page_near b nb,
      page_near x1 n1,
      page_near a na,
    ) refl in
    line_drawn zs (codes "ac") near (record { some = omega arith; regular = refl; token = refl }) made.ac (omega arith)
    (λ st saved ps pages. both_runs (moves made (from_zero x1 n1) (from_zero a na))
    (both_runs
    (curves made refl (from_zero p np) (from_zero (a +ℤ bulge) nu) (from_zero q nq) (from_zero (b +ℤ bulge) nv)
    (from_zero x2 n2) (from_zero b nb))
    (strokes made (pos 0) (pos 0))))
