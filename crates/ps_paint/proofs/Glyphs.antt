-- Any outline is drawn as it is painted.
use Rattle.std.proofs.Common.{◌≡◌, ℕ, ◌+◌, ℤ, pos, negsuc, true, false, Bool, ◌&&◌, List, [], ◌∷◌, ◌++◌, append_assoc}
use Rattle.std.proofs.Common.{append-nil, refl, arith, int_le}
use Rattle.std.proofs.Math.IntN.{◌+ℤ◌}
use Rattle.std.proofs.lemmas.Int.{ints}
use Rattle.std.proofs.lemmas.Bool.{and_parts}
use Rattle.std.specs.List.{flat_map, list_all, AllByRecursion}
use Rattle.glyph_paths.specs.declared.paths.PathOp.{PathOp}
use Rattle.ps_text.specs.declared.sheet.Frame.{Frame}
use Rattle.ps_text.specs.Range.{IsNearNumber}
use Rattle.ps_steps.specs.declared.paint.Seg.{Seg}
use Rattle.ps_steps.specs.declared.paint.Paint.{Paint}
use Rattle.ps_steps.specs.declared.paint.PagePaint.{PagePaint}
use Rattle.ps_steps.specs.declared.value.Operand.{Operand}
use Rattle.ps_steps.specs.declared.graphics.Graphics.{Graphics}
use Rattle.ps_steps.specs.State.{Names}
use Rattle.ps_steps.specs.Operators.{grestore_op}
use Rattle.ps_paint.specs.PaintOf.{stroked, filled_paint, outline_paints}
use Rattle.ps_paint.proofs.Bodies.{Made, step_numbers, step_tokens}
use Rattle.ps_paint.proofs.Scales.{Comes}
use Rattle.ps_paint.proofs.Runs.{Runs, both_runs, calls, op, pushes}
use Rattle.ps_paint.proofs.Draws.{drawing, page, moves, lines, curves, strokes, fills, restores, some_path, has_path}

-- within 2^20 of 0
abbrev pub is_small : ℤ → Bool
is_small z = int_le (negsuc 1048575) z && int_le z (pos 1048576)

abbrev pub are_small : List PathOp → Bool
are_small steps = list_all (λ s. list_all is_small (step_numbers s)) steps

-- lines, curves, fills and strokes have a path before them; the flag says that there is one
abbrev pub is_drawn : Bool → List PathOp → Bool
is_drawn b [] = true
is_drawn b (PathOp.Move x y ∷ rest) = is_drawn true rest
is_drawn b (PathOp.Fill ∷ rest) = b && is_drawn false rest
is_drawn b (PathOp.Stroke ∷ rest) = b && is_drawn false rest
is_drawn b (s ∷ rest) = b && is_drawn true rest

-- the number of tokens that the steps of a path and a grestore execute
abbrev pub cost : List PathOp → ℕ
cost [] = 1
cost (PathOp.Move x y ∷ rest) = 2 + (2 + cost rest)
cost (PathOp.Line x y ∷ rest) = 2 + (2 + cost rest)
cost (PathOp.Curve a b c d x y ∷ rest) = 6 + (2 + cost rest)
cost (PathOp.Fill ∷ rest) = 3 + cost rest
cost (PathOp.Stroke ∷ rest) = 2 + cost rest

from_near : (x a : ℤ) → IsNearNumber x → is_small a ≡ true → Comes x a (x +ℤ a)
from_near x a n s = record { is = refl; close = record { low = grind (arith, ints); high = grind (arith, ints) } }

smalls : (zs : List ℤ) → list_all is_small zs ≡ true → AllByRecursion (λ z. is_small z ≡ true) zs
smalls [] e = tt
smalls (z ∷ zs) e = let t = and_parts (is_small z) (list_all is_small zs) e in (t.0, smalls zs t.1)

module _ {f : Frame} {ds : Names} (made : Made f ds) {font : ℤ} {st : List Operand} {g : Graphics}
    {saved : List Graphics} {pages : List PagePaint} (x y : ℤ) (nx : IsNearNumber x) (ny : IsNearNumber y) where
  pub outline_runs : (steps : List PathOp) (path : List Seg) (ps : List Paint)
      → are_small steps ≡ true → is_drawn (some_path path) steps ≡ true
      → Runs (cost steps) (flat_map step_tokens steps ++ op grestore_op ∷ [])
      (page ds st (drawing f x y path font) (g ∷ saved) ps pages)
      (page ds st g saved (ps ++ outline_paints f x y path steps) pages)
  outline_runs [] path ps e d = rw (append-nil ps) (restores made)
  outline_runs (PathOp.Move a b ∷ rest) path ps e d =
      let t = and_parts (list_all is_small (a ∷ b ∷ [])) (are_small rest) e in let s = smalls (a ∷ b ∷ []) t.0 in
      both_runs (pushes (a ∷ b ∷ []))
      (both_runs (moves made (from_near x a nx s.0) (from_near y b ny s.1.0))
      (outline_runs rest _ ps t.1 (rw (has_path path _) d)))
  outline_runs (PathOp.Line a b ∷ rest) path ps e d =
      let t = and_parts (list_all is_small (a ∷ b ∷ [])) (are_small rest) e in
      let s = smalls (a ∷ b ∷ []) t.0 in
      let has = and_parts (some_path path) (is_drawn true rest) d in
      both_runs (pushes (a ∷ b ∷ []))
      (both_runs (lines made has.0 (from_near x a nx s.0) (from_near y b ny s.1.0))
      (outline_runs rest _ ps t.1 (rw (has_path path _) has.1)))
  outline_runs (PathOp.Curve a b c d p q ∷ rest) path ps e h =
      let zs = a ∷ b ∷ c ∷ d ∷ p ∷ q ∷ [] in
      let t = and_parts (list_all is_small zs) (are_small rest) e in
      let s = smalls zs t.0 in
      let has = and_parts (some_path path) (is_drawn true rest) h in
      both_runs (pushes zs)
      (both_runs
      (curves made has.0 (from_near x a nx s.0) (from_near y b ny s.1.0) (from_near x c nx s.1.1.0)
      (from_near y d ny s.1.1.1.0) (from_near x p nx s.1.1.1.1.0) (from_near y q ny s.1.1.1.1.1.0))
      (outline_runs rest _ ps t.1 (rw (has_path path _) has.1)))
  outline_runs (PathOp.Fill ∷ rest) path ps e d =
      let has = and_parts (some_path path) (is_drawn false rest) d in
      both_runs (fills made has.0) (rw append_assoc at (outline_runs rest [] (ps ++ filled_paint path ∷ []) e has.1))
  outline_runs (PathOp.Stroke ∷ rest) path ps e d =
      let has = and_parts (some_path path) (is_drawn false rest) d in
      both_runs (calls made.k (strokes made x y))
      (rw append_assoc at (outline_runs rest [] (ps ++ stroked f path ∷ []) e has.1))
