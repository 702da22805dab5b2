-- Marks by the ranks of their columns: a mark in a column by the rank of the column, a mark between two columns by
-- the ranks of both. Nothing else of a mark depends on its system.
use Rattle.std.specs.Prelude.{ℕ, ◌+◌, Bool, false, ◌==◌, List, [], ◌∷◌, ◌++◌, filter, flat_map, map, if◌then◌else◌}
use Rattle.std.specs.Prelude.{Option, Some, None}
use Rattle.std.specs.List.{range_with_len}
use Rattle.mus_onsets.specs.declared.keys.ColumnKey.{ColumnKey}
use Rattle.mus_onsets.specs.Order.{key_rank}
use Rattle.mus_laid.specs.declared.drawn.Ink.{Ink}
use Rattle.mus_laid.specs.declared.drawn.LaneInk.{LaneInk}
use Rattle.mus_laid.specs.declared.drawn.BridgeShape.{BridgeShape}
use Rattle.mus_laid.specs.declared.drawn.Bridge.{Bridge}
use Rattle.mus_laid.specs.declared.laid.Laid.{Laid}
use Rattle.mus_laid.specs.declared.laid.Mark.{Mark}
use Rattle.mus_laid.specs.declared.laid.Lane.{Lane}
use Rattle.mus_laid.specs.declared.pen.MarkPen.{MarkPen}

abbrev pub ink_at : ℕ → Ink → Mark
ink_at r (Ink.Glyph glyph dx dy) = Mark.Glyph glyph r dx dy
ink_at r (Ink.Words size dx dy text) = Mark.Words size r dx dy text
ink_at r (Ink.Stem dx from to) = Mark.Stem r dx from to

-- in the column of rank r
abbrev pub drawn_at : ℕ → LaneInk → Laid
drawn_at r d = record { mark = ink_at r d.ink; lane = d.lane }

-- a pen that has also drawn this, in its current column
abbrev pub inked : MarkPen → List LaneInk → MarkPen
inked pen drawn = record pen { marks = pen.marks ++ map (drawn_at pen.rank) drawn }

abbrev pub span_at : ℕ → ℕ → BridgeShape → Mark
span_at first last (BridgeShape.Beam way from to) = Mark.Beam way first last from to
span_at first last (BridgeShape.Arc from to bulge) = Mark.Arc first last from to bulge

-- the rank of the column of a glyph, words or a stem; beams and arcs go between columns
abbrev pub anchor_rank : Mark → Option ℕ
anchor_rank (Mark.Glyph glyph rank dx dy) = Some rank
anchor_rank (Mark.Words size rank dx dy text) = Some rank
anchor_rank (Mark.Stem rank dx from to) = Some rank
anchor_rank (Mark.Beam way first last from to) = None
anchor_rank (Mark.Arc first last from to bulge) = None

abbrev pub is_rank : ℕ → Option ℕ → Bool
is_rank n None = false
is_rank n (Some r) = n == r

abbrev pub stands_at_rank : ℕ → Laid → Bool
stands_at_rank r x = is_rank r (anchor_rank x.mark)

-- Lists of marks merged by column: in each of n columns first the marks of the first list, then those of the second,
-- and so on. A single list stays as it is.
abbrev pub at_rank : List (List Laid) → ℕ → List Laid
at_rank parts r = flat_map (λ part. filter (stands_at_rank r) part) parts

abbrev pub by_columns : ℕ → List (List Laid) → List Laid
by_columns n (part ∷ []) = part
by_columns n parts = flat_map (at_rank parts) (range_with_len 0 n)

-- columns from rank r on, with a mark added at the end of its column; with the marks of a part; and with those of
-- several parts
abbrev pub with_mark : ℕ → Laid → List (List Laid) → List (List Laid)
with_mark r x [] = []
with_mark r x (column ∷ columns) =
    (if stands_at_rank r x then column ++ x ∷ [] else column) ∷ with_mark (r + 1) x columns

abbrev pub with_part : List Laid → List (List Laid) → List (List Laid)
with_part [] columns = columns
with_part (x ∷ xs) columns = with_part xs (with_mark 0 x columns)

abbrev pub with_parts : List (List Laid) → List (List Laid) → List (List Laid)
with_parts [] columns = columns
with_parts (part ∷ parts) columns = with_parts parts (with_part part columns)

-- between two columns of the system with these keys, in no lane
abbrev pub bridge_at : List ColumnKey → Bridge → Laid
bridge_at keys b = record { mark = span_at (key_rank keys b.first) (key_rank keys b.last) b.span; lane = Lane.Loose }
