-- The columns of a staff of a system. The anchors of all staves of the system, from the left and each once, are the
-- places of its columns. A column has the meanings of the glyphs at its anchor, in the staff's order, and the heights
-- of the heads at which a tie ends there: an arc that bulges as a tie does ends that far from its head. The first
-- column of a system leads it.
use Rattle.std.specs.Prelude.{ℤ, pos, ◌-ℤ◌, ◌||◌, ◌&&◌, int_lt, if◌then◌else◌, Bool, true, false, List, [], ◌∷◌}
use Rattle.std.specs.Prelude.{flat_map}
use Rattle.std.specs.Ordering.{int_eq}
use Rattle.mus_units.specs.Distances.{tie_gap}
use Rattle.ps_text.specs.declared.marks.PageMark.{PageMark}
use Rattle.ps_heard.specs.declared.column.HeardColumn.{HeardColumn}
use Rattle.ps_heard.specs.declared.column.HeardGlyph.{HeardGlyph}
use Rattle.ps_heard.specs.declared.column.Role.{Role}
use Rattle.ps_heard.specs.Roles.{role_of}

-- quiet glyphs mean nothing
abbrev pub noted : Role → ℤ → List HeardGlyph
noted Role.Quiet dy = []
noted role dy = record { role = role; dy = dy } ∷ []

-- what a mark means at an anchor: only glyphs mean something
abbrev pub glyphs_at : ℤ → PageMark → List HeardGlyph
glyphs_at x (PageMark.Glyph glyph at dx dy) = if int_eq at x then noted (role_of glyph dy) dy else []
glyphs_at x _ = []

abbrev pub bulges_as_tie : ℤ → Bool
bulges_as_tie bulge = int_eq bulge (pos tie_gap) || int_eq bulge (pos 0 -ℤ pos tie_gap)

-- the height of the head at which a tie ends at an anchor
abbrev pub tie_at : ℤ → PageMark → List ℤ
tie_at x (PageMark.Arc x1 x2 from to bulge) = if int_eq x2 x && bulges_as_tie bulge then (to -ℤ bulge) ∷ [] else []
tie_at x _ = []

unfoldable pub column_at : Bool → List PageMark → ℤ → HeardColumn
column_at leads ms x = record { leads = leads; notes = flat_map (glyphs_at x) ms; ties = flat_map (tie_at x) ms }

-- rising numbers with one more, unless it is among them
abbrev pub inserted : ℤ → List ℤ → List ℤ
inserted x [] = x ∷ []
inserted x (y ∷ ys) = if int_lt x y then x ∷ y ∷ ys else if int_eq x y then y ∷ ys else y ∷ inserted x ys

-- the numbers of a list in rising order, each once
abbrev pub rising : List ℤ → List ℤ
rising [] = []
rising (x ∷ xs) = inserted x (rising xs)

abbrev pub heard_columns_from : Bool → List PageMark → List ℤ → List HeardColumn
heard_columns_from leads ms [] = []
heard_columns_from leads ms (x ∷ xs) = column_at leads ms x ∷ heard_columns_from false ms xs

-- the columns of a staff with these marks, by the anchors of its system
unfoldable pub heard_columns_of : List ℤ → List PageMark → List HeardColumn
heard_columns_of anchors ms = heard_columns_from true ms (rising anchors)
