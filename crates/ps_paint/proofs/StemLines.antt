-- Stems, and the lines that join staves.
use Rattle.std.proofs.Common.{◌≡◌, true, ℤ, pos, [], ◌∷◌, ◌++◌, refl, arith, codes}
use Rattle.ps_text.specs.Document.{mark_text, join_line}
use Rattle.ps_text.specs.Line.{stem_line}
use Rattle.ps_text.specs.declared.sheet.Frame.{Frame}
use Rattle.ps_text.specs.declared.marks.PageMark.{PageMark}
use Rattle.ps_text.specs.Range.{IsStem, IsNumber}
use Rattle.ps_steps.specs.State.{Names}
use Rattle.ps_steps.specs.Operators.{all_near}
use Rattle.ps_paint.specs.PaintOf.{move, line, stroked, mark_paints}
use Rattle.ps_paint.proofs.Bodies.{Made}
use Rattle.ps_paint.proofs.Scales.{no_way, from_zero, from_number}
use Rattle.ps_paint.proofs.Runs.{both_runs}
use Rattle.ps_paint.proofs.Draws.{moves, lines, saves, restores, translates, strokes}
use Rattle.ps_paint.proofs.Lines.{Draws, line_drawn, page_near, offset_near}

module _ {f : Frame} {ds : Names} (made : Made f ds) where
  pub stem_drawn : (y x dx from to : ℤ)
      → IsStem y x dx from to
      → Draws f ds (mark_text y (PageMark.Stem x dx from to)) (mark_paints f y (PageMark.Stem x dx from to))
  unfolding mark_text stem_line
  stem_drawn y x dx from to s =
      let zs = dx ∷ to ∷ dx ∷ from ∷ x ∷ y ∷ [] in
      let base = s.start.base in
      let anchor = s.start.anchor in
      let across = from_number x dx anchor s.start.across in
      let near : all_near zs ≡ true = rw (
        offset_near dx s.start.across,
        offset_near to s.end,
        offset_near from s.start.above,
        page_near x anchor,
        page_near y base,
      ) refl in
      line_drawn zs (codes "st") near (record { some = omega arith; regular = refl; token = refl }) made.st
      (omega arith)
      (λ st saved ps pages. both_runs (saves made) (both_runs (translates made (from_zero x anchor) (from_zero y base))
      (both_runs (moves made across (from_number y from base s.start.above))
      (both_runs (lines made refl across (from_number y to base s.end))
      (both_runs (strokes made x y) (restores made))))))

  -- from (0, foot) to (0, top)
  pub join_drawn : (top foot : ℤ)
      → IsNumber top → IsNumber foot
      → Draws f ds (join_line top foot ++ 10 ∷ []) (stroked f (move f (pos 0) foot ∷ line f (pos 0) top ∷ []) ∷ [])
  unfolding join_line
  join_drawn top foot nt nf =
      let zs = pos 0 ∷ top ∷ pos 0 ∷ foot ∷ [] in
      let near : all_near zs ≡ true = rw (page_near top nt, page_near foot nf) refl in
      line_drawn zs (codes "vl") near (record { some = omega arith; regular = refl; token = refl }) made.vl
      (omega arith)
      (λ st saved ps pages.
      both_runs (moves made no_way (from_zero foot nf))
      (both_runs (lines made refl no_way (from_zero top nt)) (strokes made (pos 0) (pos 0))))
