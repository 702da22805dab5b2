-- The line of the prolog that defines a glyph: its name, and a procedure that moves to where it is drawn and runs its
-- path. In a path a space follows each number and each operator.
use Rattle.std.specs.Prelude.{ℕ, ℤ, List, [], ◌∷◌, ◌++◌, codes}
use Rattle.std.specs.Fmt.{signed_decimal}
use Rattle.std.specs.List.{flat_map}
use Rattle.mus_units.specs.declared.glyph.Glyph.{Glyph}
use Rattle.glyph_paths.specs.Characters.{space}
use Rattle.glyph_paths.specs.declared.paths.PathOp.{PathOp}
use Rattle.glyph_paths.specs.Rows.{glyph_name, outline_of}
use Rattle.glyph_paths.specs.declared.paths.PathOp.TheVariants as ops

-- numbers in decimal, with a space after each
unfoldable pub numbers : List ℤ → List ℕ
numbers zs = flat_map (λ z. signed_decimal z ++ space ∷ []) zs

-- a step of a path: its numbers, then its operator
abbrev pub step_text : PathOp → List ℕ
step_text (ops.Move x y) = numbers (x ∷ y ∷ []) ++ codes "m "
step_text (ops.Line x y) = numbers (x ∷ y ∷ []) ++ codes "l "
step_text (ops.Curve a b c d x y) = numbers (a ∷ b ∷ c ∷ d ∷ x ∷ y ∷ []) ++ codes "c "
step_text ops.Fill = codes "h "
step_text ops.Stroke = codes "k "

unfoldable pub path_text : List PathOp → List ℕ
path_text steps = flat_map step_text steps

unfoldable pub procedure_text : Glyph → List ℕ
procedure_text glyph =
    codes "/" ++ glyph_name glyph ++ codes " {gsave translate translate " ++ path_text (outline_of glyph)
    ++ codes "grestore} def"
