-- The lines of beams.
use Rattle.std.proofs.{Common.{◌≡◌, true, ℤ, pos, [], ◌∷◌, refl, arith}, Math.IntN.{◌+ℤ◌, +ℤ_comm}, lemmas.Int.ints}
use Rattle.mus_units.specs.Distances.{beam_thickness}
use Rattle.mus_units.specs.declared.glyph.Way.{Way}
use Rattle.ps_text.specs.Range.{IsNumber, IsSpan}
use Rattle.ps_text.specs.Line.{beam_line, points, ends_of}
use Rattle.ps_text.specs.Names.{way_name}
use Rattle.ps_text.specs.Document.{mark_text}
use Rattle.ps_text.specs.declared.sheet.Frame.{Frame}
use Rattle.ps_text.specs.declared.marks.PageMark.{PageMark}
use Rattle.ps_steps.specs.declared.token.SimpleToken.TheVariants.{Name as name_token}
use Rattle.ps_steps.specs.State.{Names}
use Rattle.ps_steps.specs.Operators.{all_near}
use Rattle.ps_paint.specs.PaintOf.{edge, mark_paints}
use Rattle.ps_paint.proofs.Bodies.{Made}
use Rattle.ps_paint.proofs.Scales.{IsClose, Comes}
use Rattle.ps_paint.proofs.Scales.{no_way, from_zero}
use Rattle.ps_paint.proofs.Runs.{both_runs, pushes}
use Rattle.ps_paint.proofs.Draws.{moves, lines, fills, saves, restores, translates}
use Rattle.ps_paint.proofs.Takes.{IsTokenWord}
use Rattle.ps_paint.proofs.Lines.{Draws, line_drawn, page_near}

edge_number : (way : Way) → IsNumber (edge way)
edge_number Way.Up = record { low = omega (arith, ints); high = omega (arith, ints) }
edge_number _ = record { low = omega (arith, ints); high = omega (arith, ints) }

edge_close : (way : Way) (x : ℤ) → IsNumber x → IsClose (x +ℤ edge way)
edge_close Way.Up x n = record { low = omega (arith, ints); high = omega (arith, ints) }
edge_close Way.Down x n = record { low = omega (arith, ints); high = omega (arith, ints) }
edge_close Way.Grace x n = record { low = omega (arith, ints); high = omega (arith, ints) }

from_edge : (way : Way) (x : ℤ) → IsNumber x → Comes (edge way) x (x +ℤ edge way)
from_edge way x n = record { is = +ℤ_comm (edge way) x; close = edge_close way x n }

way_word : (way : Way) → IsTokenWord (name_token (way_name way)) (way_name way)
way_word Way.Up = record { some = omega arith; regular = refl; token = refl }
way_word _ = record { some = omega arith; regular = refl; token = refl }

pub beam_drawn : {f : Frame} {ds : Names} (made : Made f ds) (y : ℤ) (way : Way) (x1 x2 from to : ℤ)
    → IsSpan y x1 x2 from to (pos beam_thickness)
    → Draws f ds (mark_text y (PageMark.Beam way x1 x2 from to)) (mark_paints f y (PageMark.Beam way x1 x2 from to))
unfolding mark_text beam_line points ends_of
beam_drawn made y way x1 x2 from to s =
    let a = y +ℤ from in
    let b = y +ℤ to in
    let zs = x1 ∷ (a +ℤ pos beam_thickness) ∷ x2 ∷ (b +ℤ pos beam_thickness) ∷ x2 ∷ b ∷ x1 ∷ a ∷ [] in
    let n1 = s.stretch.first in
    let n2 = s.stretch.last in
    let na = s.left.point in
    let nb = s.right.point in
    let nu = s.left.above in
    let nv = s.right.above in
    let left = from_edge way x1 n1 in
    let right = from_edge way x2 n2 in
    let near : all_near zs ≡ true = rw (
      page_near x1 n1,
      page_near (a +ℤ pos beam_thickness) nu,
      page_near x2 n2,
      page_near (b +ℤ pos beam_thickness) nv,
      page_near b nb,
      page_near a na,
    ) refl in
    line_drawn zs (way_name way) near (way_word way) (made.beam way) (omega arith)
    (λ st saved ps pages.
    both_runs (saves made)
    (both_runs (pushes (edge way ∷ pos 0 ∷ []))
    (both_runs (translates made (from_zero (edge way) (edge_number way)) no_way)
    (both_runs (moves made left (from_zero a na))
    (both_runs (lines made refl right (from_zero b nb))
    (both_runs (lines made refl right (from_zero (b +ℤ pos beam_thickness) nv))
    (both_runs (lines made refl left (from_zero (a +ℤ pos beam_thickness) nu))
    (both_runs (fills made refl) (restores made)))))))))
