-- The line that spells a mark on a staff at y, without the LF that ends it.
use Rattle.std.specs.Prelude.{ℕ, ℤ, pos, ◌+ℤ◌, ◌-ℤ◌, int_div, List, [], ◌∷◌, ◌++◌, codes}
use Rattle.mus_units.specs.Distances.{beam_thickness}
use Rattle.mus_units.specs.declared.glyph.Glyph.{Glyph}
use Rattle.mus_units.specs.declared.glyph.Size.{Size}
use Rattle.mus_units.specs.declared.glyph.Way.{Way}
use Rattle.glyph_paths.specs.Names.{glyph_name}
use Rattle.glyph_paths.specs.Procedure.{numbers}
use Rattle.ps_text.specs.Fields.{in_parentheses}
use Rattle.ps_text.specs.Names.{size_name, way_name}
use Rattle.ps_text.specs.declared.writing.Ends.{Ends}
use Rattle.ps_text.specs.declared.marks.PageMark.{PageMark}

unfoldable pub glyph_line : Glyph → ℤ → ℤ → ℤ → ℤ → List ℕ
glyph_line glyph x dx dy y = numbers (dx ∷ dy ∷ x ∷ y ∷ []) ++ glyph_name glyph

unfoldable pub words_line : Size → ℤ → ℤ → ℤ → List ℕ → ℤ → List ℕ
words_line size x dx dy words y = in_parentheses words ++ numbers (dx ∷ dy ∷ x ∷ y ∷ []) ++ size_name size

unfoldable pub stem_line : ℤ → ℤ → ℤ → ℤ → ℤ → List ℕ
stem_line x dx from to y = numbers (dx ∷ to ∷ dx ∷ from ∷ x ∷ y ∷ []) ++ codes "st"

-- the points at the two ends of a beam or an arc, and those above them
unfoldable pub ends_of : ℤ → ℤ → ℤ → ℤ → ℤ → ℤ → Ends
ends_of y x1 x2 from to rise = record {
  x1 = x1;
  x2 = x2;
  left = y +ℤ from;
  left_above = (y +ℤ from) +ℤ rise;
  right = y +ℤ to;
  right_above = (y +ℤ to) +ℤ rise;
}

-- the point above the left end, at p, the one above the right end, at q, the right end and the left end
unfoldable pub points : ℤ → ℤ → Ends → List ℕ
points p q e = numbers (p ∷ e.left_above ∷ q ∷ e.right_above ∷ e.x2 ∷ e.right ∷ e.x1 ∷ e.left ∷ [])

-- the four corners of a beam
unfoldable pub beam_line : Way → ℤ → ℤ → ℤ → ℤ → ℤ → List ℕ
beam_line way x1 x2 from to y = points x1 x2 (ends_of y x1 x2 from to (pos beam_thickness)) ++ way_name way

-- a quarter of the way from x1 to x2
abbrev pub quarter : ℤ → ℤ → ℤ
quarter x1 x2 = int_div (x2 -ℤ x1) (pos 4)

-- an arc has its inner points a quarter of the way from its ends
unfoldable pub arc_line : ℤ → ℤ → ℤ → ℤ → ℤ → ℤ → List ℕ
arc_line x1 x2 from to bulge y =
    points (x1 +ℤ quarter x1 x2) (x2 -ℤ quarter x1 x2) (ends_of y x1 x2 from to bulge) ++ codes "ac"

-- the line of a mark on a staff at y
abbrev pub mark_line : ℤ → PageMark → List ℕ
mark_line y (PageMark.Glyph glyph x dx dy) = glyph_line glyph x dx dy y
mark_line y (PageMark.Words size x dx dy words) = words_line size x dx dy words y
mark_line y (PageMark.Stem x dx from to) = stem_line x dx from to y
mark_line y (PageMark.Beam way x1 x2 from to) = beam_line way x1 x2 from to y
mark_line y (PageMark.Arc x1 x2 from to bulge) = arc_line x1 x2 from to bulge y
