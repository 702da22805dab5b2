-- The boxes that marks fill: from the least to the greatest height, and from the left to the right of the column.
-- Stems, beams and arcs have heights only.
use Rattle.std.specs.Prelude.{ℕ, ℤ, pos, ◌*◌, ◌≤◌, ◌+ℤ◌, ◌-ℤ◌, ⊤, List, [], ◌∷◌, length, Option, Some, None}
use Rattle.std.specs.Int.{int_min, int_max}
use Rattle.std.specs.List.{AllByRecursion}
use Rattle.mus_units.specs.declared.glyph.Glyph.{Glyph}
use Rattle.mus_units.specs.declared.glyph.Size.{Size}
use Rattle.glyph_paths.specs.Bounds.{bounds_in}
use Rattle.mus_laid.specs.Distances.{beam_thickness, big_above, big_below, big_width, small_above, small_below}
use Rattle.mus_laid.specs.Distances.{small_width, top_line}
use Rattle.mus_laid.specs.declared.laid.Mark.{Mark}
use Rattle.mus_laid.specs.declared.laid.Laid.{Laid}
use Rattle.mus_laid.specs.declared.boxes.HeightRange.{HeightRange}
use Rattle.mus_laid.specs.declared.boxes.Sides.{Sides}

-- a text has at most 60 characters
abbrev pub IsGoodMark : Mark → Type 0
IsGoodMark (Mark.Words size rank dx dy text) = length text ≤ 60
IsGoodMark _ = ⊤

abbrev pub AreGoodMarks : List Laid → Type 0
AreGoodMarks = AllByRecursion (λ laid. IsGoodMark laid.mark)

-- the width of a character, and how far a line of text goes below and above its base
abbrev pub character_width : Size → ℕ
character_width Size.Small = small_width
character_width Size.Big = big_width

abbrev pub text_low : Size → ℤ
text_low Size.Small = pos 0 -ℤ pos small_below
text_low Size.Big = pos 0 -ℤ pos big_below

abbrev pub text_high : Size → ℤ
text_high Size.Small = pos small_above
text_high Size.Big = pos big_above

abbrev pub heights : ℤ → ℤ → HeightRange
heights low high = record { low = low; high = high }

-- a glyph covers the points of its path, moved by its height
unfoldable pub glyph_heights : Glyph → ℤ → HeightRange
glyph_heights glyph dy = heights (dy +ℤ (bounds_in glyph).low) (dy +ℤ (bounds_in glyph).high)

unfoldable pub text_heights : Size → ℤ → HeightRange
text_heights size dy = heights (dy +ℤ text_low size) (dy +ℤ text_high size)

-- a stem from the lesser to the greater of its ends
unfoldable pub stem_heights : ℤ → ℤ → HeightRange
stem_heights from to = heights (int_min from to) (int_max from to)

-- a beam from its lesser lower edge to its thickness above the greater one
unfoldable pub beam_heights : ℤ → ℤ → HeightRange
beam_heights from to = heights (int_min from to) (int_max from to +ℤ pos beam_thickness)

abbrev pub over_four : ℤ → ℤ → ℤ → ℤ → HeightRange
over_four a b c d = heights (int_min (int_min a b) (int_min c d)) (int_max (int_max a b) (int_max c d))

-- an arc over its ends, and its ends moved by its bulge
unfoldable pub arc_heights : ℤ → ℤ → ℤ → HeightRange
arc_heights from to bulge = over_four from to (from +ℤ bulge) (to +ℤ bulge)

abbrev pub heights_of : Mark → HeightRange
heights_of (Mark.Glyph glyph rank dx dy) = glyph_heights glyph dy
heights_of (Mark.Words size rank dx dy text) = text_heights size dy
heights_of (Mark.Stem rank dx from to) = stem_heights from to
heights_of (Mark.Beam way first last from to) = beam_heights from to
heights_of (Mark.Arc first last from to bulge) = arc_heights from to bulge

-- from the column that holds the mark
unfoldable pub glyph_sides : Glyph → ℤ → Sides
glyph_sides glyph dx = record { left = dx +ℤ (bounds_in glyph).left; right = dx +ℤ (bounds_in glyph).right }

unfoldable pub text_sides : Size → ℤ → ℕ → Sides
text_sides size dx count = record { left = dx; right = dx +ℤ pos (character_width size * count) }

abbrev pub sides_of : Mark → Option Sides
sides_of (Mark.Glyph glyph rank dx dy) = Some (glyph_sides glyph dx)
sides_of (Mark.Words size rank dx dy text) = Some (text_sides size dx (length text))
sides_of (Mark.Stem rank dx from to) = None
sides_of (Mark.Beam way first last from to) = None
sides_of (Mark.Arc first last from to bulge) = None

-- over all marks of a staff, and at least over its lines
abbrev pub union_of_heights : HeightRange → HeightRange → HeightRange
union_of_heights a b = heights (int_min a.low b.low) (int_max a.high b.high)

abbrev pub over_marks : HeightRange → List Laid → HeightRange
over_marks so_far [] = so_far
over_marks so_far (laid ∷ more) = over_marks (union_of_heights so_far (heights_of laid.mark)) more

abbrev pub staff_heights : List Laid → HeightRange
staff_heights all = over_marks (heights (pos 0) (pos top_line)) all
