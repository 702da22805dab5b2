-- The lines of staves.
use Rattle.std.proofs.Common.{◌≡◌, ℕ, true, ℤ, pos, List, [], ◌∷◌, ◌++◌, refl, arith, nat_le, codes}
use Rattle.std.proofs.Math.IntN.{◌+ℤ◌, +ℤ_idr}
use Rattle.std.proofs.lemmas.Int.{ints}
use Rattle.mus_units.specs.Distances.{top_line, fourth_line, third_line, second_line}
use Rattle.ps_text.specs.Document.{rules_line}
use Rattle.ps_text.specs.declared.sheet.Frame.{Frame}
use Rattle.ps_text.specs.Range.{IsNumber}
use Rattle.ps_steps.specs.declared.paint.Paint.{Paint}
use Rattle.ps_steps.specs.declared.paint.Seg.{Seg}
use Rattle.ps_steps.specs.declared.paint.PagePaint.{PagePaint}
use Rattle.ps_steps.specs.declared.value.Operand.{Operand}
use Rattle.ps_steps.specs.declared.value.Operand.TheVariants.{Whole as whole_value}
use Rattle.ps_steps.specs.declared.graphics.Graphics.{Graphics}
use Rattle.ps_steps.specs.State.{Names}
use Rattle.ps_steps.specs.Operators.{all_near}
use Rattle.ps_paint.specs.Distances.{small_height}
use Rattle.ps_paint.specs.PaintOf.{move, line, stroked, rules}
use Rattle.ps_paint.proofs.Bodies.{Made, rule_tokens}
use Rattle.ps_paint.proofs.Scales.{Comes, no_way, close_number, from_zero, from_number}
use Rattle.ps_paint.proofs.Runs.{Runs, both_runs, pushes}
use Rattle.ps_paint.proofs.Draws.{drawing, page, moves, lines, saves, restores, translates}
use Rattle.ps_paint.proofs.{Draws.{strokes, has_path}, Lines.{Draws, line_drawn, page_near}}

module _ {f : Frame} {ds : Names} (made : Made f ds) where
  -- a line of a staff at y, after others
  next_rule : {w y up v : ℤ} {path : List Seg} {st : List Operand} {saved : List Graphics} {ps : List Paint}
      {pages : List PagePaint}
      → IsNumber w → Comes y up v
      → Runs 6 (rule_tokens up)
      (page ds (whole_value up ∷ whole_value w ∷ st) (drawing f (pos 0) y path small_height) saved ps pages)
      (page ds st (drawing f (pos 0) y ((path ++ move f (pos 0) v ∷ []) ++ line f w v ∷ []) small_height) saved ps
      pages)
  next_rule {w} {up = up} {path = path} n c =
      both_runs (pushes (pos 0 ∷ up ∷ []))
      (both_runs (moves made no_way c) (lines made (has_path path _) (from_zero w n) c))

  above : (y : ℤ) (n : ℕ) → IsNumber y → nat_le n top_line ≡ true → Comes y (pos n) (y +ℤ pos n)
  above y n h l = from_number y (pos n) h (record { low = grind (arith, ints); high = grind (arith, ints) })

  pub rules_drawn : (width : ℕ) (y : ℤ)
      → IsNumber (pos width) → IsNumber y
      → Draws f ds (rules_line width y ++ 10 ∷ []) (stroked f (rules f (pos width) y) ∷ [])
  unfolding rules_line
  rules_drawn width y nw ny =
      let w = pos width in
      let zs =
      w ∷ pos top_line ∷ w ∷ pos fourth_line ∷ w ∷ pos third_line ∷ w ∷ pos second_line ∷ w ∷ pos 0 ∷ pos 0 ∷ y ∷ [] in
      let near : all_near zs ≡ true = rw (page_near w nw, page_near y ny) refl in
      let lowest : Comes y (pos 0) y = record { is = +ℤ_idr y; close = close_number y ny } in
      line_drawn zs (codes "sf") near (record { some = omega arith; regular = refl; token = refl }) made.sf
      (omega arith)
      (λ st saved ps pages. both_runs (saves made) (both_runs (translates made no_way (from_zero y ny))
      (both_runs (next_rule nw lowest)
      (both_runs (next_rule nw (above y second_line ny refl)) (both_runs (next_rule nw (above y third_line ny refl))
      (both_runs (next_rule nw (above y fourth_line ny refl))
      (both_runs (next_rule nw (above y top_line ny refl)) (both_runs (strokes made (pos 0) y) (restores made)))))))))
