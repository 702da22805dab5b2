-- The text of paints. For each page, counted from 1, a line `page k`, and then a line for each paint: `fill`, or
-- `stroke` and the width, followed by each piece of the path as its numbers and `m`, `l`, `c` or `z`; or `show` with
-- size, x and y, and the words in parentheses, spelled as on a page. Parts are separated by one space. A run that
-- halts has one line: the number of tokens that were executed before, and the cause.
use Prim.Native.Char.{code}
use Rattle.std.specs.{Prelude.{ℕ, ℤ, List, [], ◌∷◌, ◌++◌, codes, decimal, flat_map}, Fmt.signed_decimal}
use Rattle.ps_text.specs.Document.{numbered}
use Rattle.ps_text.specs.Fields.{quoted}
use Rattle.ps_steps.specs.declared.halt.Cause.{Cause}
use Rattle.ps_steps.specs.declared.paint.Seg.{Seg}
use Rattle.ps_steps.specs.declared.paint.Paint.{Paint}
use Rattle.ps_steps.specs.declared.paint.PagePaint.{PagePaint}

-- numbers in decimal, each after a space
unfoldable pub spaced : List ℤ → List ℕ
spaced zs = flat_map (λ z. code " " ∷ signed_decimal z) zs

abbrev pub seg_text : Seg → List ℕ
seg_text (Seg.Move x y) = spaced (x ∷ y ∷ []) ++ codes " m"
seg_text (Seg.Line x y) = spaced (x ∷ y ∷ []) ++ codes " l"
seg_text (Seg.Curve a b c d x y) = spaced (a ∷ b ∷ c ∷ d ∷ x ∷ y ∷ []) ++ codes " c"
seg_text Seg.Close = codes " z"

abbrev pub paint_line : Paint → List ℕ
paint_line (Paint.Fill path) = codes "fill" ++ flat_map seg_text path ++ codes "\n"
paint_line (Paint.Stroke width path) = codes "stroke" ++ spaced (width ∷ []) ++ flat_map seg_text path ++ codes "\n"
paint_line (Paint.Show size x y words) =
    codes "show" ++ spaced (size ∷ x ∷ y ∷ []) ++ code " " ∷ quoted words ++ codes "\n"

abbrev pub painted_page : ℕ → PagePaint → List ℕ
painted_page k page = codes "page " ++ decimal k ++ code "\n" ∷ flat_map paint_line page.paints

abbrev pub paint_text : List PagePaint → List ℕ
paint_text pages = numbered painted_page 1 pages

abbrev pub cause_name : Cause → List ℕ
cause_name Cause.BadToken = codes "BadToken"
cause_name Cause.Unclosed = codes "Unclosed"
cause_name Cause.Stack = codes "Stack"
cause_name Cause.Kind = codes "Kind"
cause_name Cause.Name = codes "Name"
cause_name Cause.Point = codes "Point"
cause_name Cause.Restore = codes "Restore"
cause_name Cause.Scale = codes "Scale"
cause_name Cause.Range = codes "Range"
cause_name Cause.Budget = codes "Budget"

-- the line for a run that halts
abbrev pub halt_line : ℕ → Cause → List ℕ
halt_line token cause = codes "halt at token " ++ decimal token ++ codes ": " ++ cause_name cause ++ codes "\n"
