-- From a line to its mark: the mark that some numbers and a name may be, as the reader finds it. The reader promises
-- to return the one mark that spells the line.
use Rattle.std.specs.Prelude.{ℕ, ℤ, pos, negsuc, ◌-ℤ◌, Bool, ◌&&◌, ◌==◌, int_le, if◌then◌else◌, List, length, codes}
use Rattle.std.specs.Prelude.{find, Option, Some, None, slice_index_or}
use Rattle.std.specs.Str.{bytes_eq}
use Rattle.mus_units.specs.declared.glyph.Glyph.{Glyph}
use Rattle.mus_units.specs.declared.glyph.Size.{Size}
use Rattle.mus_units.specs.declared.glyph.Way.{Way}
use Rattle.glyph_paths.specs.Names.{glyph_name, glyphs_in_order}
use Rattle.ps_text.specs.declared.marks.PageMark.{PageMark}

-- a signed number of 32 bits
unfoldable pub is_small : ℤ → Bool
is_small z = int_le (negsuc 2147483647) z && int_le z (pos 2147483647)

abbrev pub at : List ℤ → ℕ → ℤ
at zs k = slice_index_or zs k (pos 0)

-- the glyph of that name
unfoldable pub glyph_named : List ℕ → Option Glyph
glyph_named name = find (λ g. bytes_eq (glyph_name g) name) glyphs_in_order

unfoldable pub glyph_at : Glyph → ℤ → ℤ → ℤ → Option PageMark
glyph_at glyph dx dy x = if is_small dx && is_small dy then Some (PageMark.Glyph glyph x dx dy) else None

abbrev pub glyph_from : List ℤ → Option Glyph → Option PageMark
glyph_from zs None = None
glyph_from zs (Some glyph) = if length zs == 4 then glyph_at glyph (at zs 0) (at zs 1) (at zs 2) else None

unfoldable pub words_at : Size → List ℕ → ℤ → ℤ → ℤ → Option PageMark
words_at size words dx dy x = if is_small dx && is_small dy then Some (PageMark.Words size x dx dy words) else None

abbrev pub size_named : List ℕ → Size
size_named name = if bytes_eq name (codes "t2") then Size.Big else Size.Small

unfoldable pub words_from : List ℕ → List ℤ → List ℕ → Option PageMark
words_from words zs name =
    if length zs == 4 then words_at (size_named name) words (at zs 0) (at zs 1) (at zs 2) else None

unfoldable pub stem_at : ℤ → ℤ → ℤ → ℤ → Option PageMark
stem_at dx to from x = if (is_small dx && is_small to) && is_small from then Some (PageMark.Stem x dx from to) else None

unfoldable pub stem_from : List ℤ → Option PageMark
stem_from zs = if length zs == 6 then stem_at (at zs 0) (at zs 1) (at zs 3) (at zs 4) else None

-- how far one number is above another, if that is a signed number of 32 bits
unfoldable pub offset_from : ℤ → ℤ → Option ℤ
offset_from z y = if is_small (z -ℤ y) then Some (z -ℤ y) else None

abbrev pub beam_at : Way → ℤ → ℤ → Option ℤ → Option ℤ → Option PageMark
beam_at way x1 x2 None to = None
beam_at way x1 x2 (Some from) None = None
beam_at way x1 x2 (Some from) (Some to) = Some (PageMark.Beam way x1 x2 from to)

unfoldable pub beam_from : Way → ℤ → List ℤ → Option PageMark
beam_from way y zs =
    if length zs == 8 then beam_at way (at zs 6) (at zs 4) (offset_from (at zs 7) y) (offset_from (at zs 5) y) else None

abbrev pub arc_at : ℤ → ℤ → Option ℤ → Option ℤ → Option ℤ → Option PageMark
arc_at x1 x2 None to bulge = None
arc_at x1 x2 (Some from) None bulge = None
arc_at x1 x2 (Some from) (Some to) None = None
arc_at x1 x2 (Some from) (Some to) (Some bulge) = Some (PageMark.Arc x1 x2 from to bulge)

unfoldable pub arc_from : ℤ → List ℤ → Option PageMark
arc_from y zs =
    if length zs == 8
    then arc_at (at zs 6) (at zs 4) (offset_from (at zs 7) y) (offset_from (at zs 5) y)
    (offset_from (at zs 1) (at zs 7))
    else None

-- the mark by its name
unfoldable pub mark_from : ℤ → List ℤ → List ℕ → Option PageMark
mark_from y zs name = if bytes_eq name (codes "st") then stem_from zs
    else if bytes_eq name (codes "ac") then arc_from y zs
    else if bytes_eq name (codes "bu") then beam_from Way.Up y zs
    else if bytes_eq name (codes "bd") then beam_from Way.Down y zs
    else if bytes_eq name (codes "gb") then beam_from Way.Grace y zs
    else glyph_from zs (glyph_named name)
