-- Columns before any mark, and widened by marks one after the other.
use Rattle.std.specs.Prelude.{ℕ, ◌+◌, max, nat_lt, if◌then◌else◌, List, [], ◌∷◌, length, replicate, Option, Some, None}
use Rattle.std.specs.Prelude.{All, slice_get, slice_index_or, slice_set}
use Rattle.mus_laid.specs.Boxes.{AreGoodMarks, sides_of}
use Rattle.mus_laid.specs.declared.boxes.Sides.{Sides}
use Rattle.mus_laid.specs.declared.laid.Laid.{Laid}
use Rattle.mus_laid.specs.declared.laid.StaffMarks.{StaffMarks}
use Rattle.{mus_onsets.specs.declared.keys.ColumnKey.{ColumnKey}, lay_springs.specs.declared.traits.Reach.{Reach}}
use Rattle.lay_reaches.specs.declared.column.Column.{Column}
use Rattle.lay_reaches.specs.Lanes.{lane_count, lane_number}
use Rattle.lay_reaches.specs.Naturals.{natural_of}
use Rattle.lay_reaches.specs.Reaches.{left_of, rank_of_mark, right_of, standing, stands_always}

abbrev pub HaveGoodMarks : List StaffMarks → Type 0
HaveGoodMarks staves = All (λ s. AreGoodMarks s.marks) staves

-- a column without marks, in some lanes
abbrev pub bare_column : ColumnKey → ℕ → ℕ → Column
bare_column key natural lanes =
    record { key = key; reaches = replicate lanes (standing (stands_always key.class) None); natural = natural }

abbrev pub bare_columns : List ColumnKey → List ℕ → ℕ → List Column
bare_columns [] lengths lanes = []
bare_columns (key ∷ following) lengths lanes =
    bare_column key (natural_of key following lengths) lanes ∷ bare_columns following lengths lanes

-- widened to cover a box too
abbrev pub reach_widened : Option Reach → Sides → Reach
reach_widened None box = record { left = left_of box.left; right = right_of box.right }
reach_widened (Some reach) box =
    record { left = max reach.left (left_of box.left); right = max reach.right (right_of box.right) }

abbrev pub widened_row : List (Option Reach) → ℕ → Sides → List (Option Reach)
widened_row row place box =
    if nat_lt place (length row) then slice_set row place (Some (reach_widened (slice_index_or row place None) box))
    else row

abbrev pub widened_column : Column → ℕ → Sides → Column
widened_column column place box =
    record { key = column.key; reaches = widened_row column.reaches place box; natural = column.natural }

abbrev pub with_widened : List Column → ℕ → ℕ → Sides → Option Column → List Column
with_widened columns rank place box None = columns
with_widened columns rank place box (Some column) = slice_set columns rank (widened_column column place box)

abbrev pub widened_at : List Column → ℕ → ℕ → Sides → List Column
widened_at columns rank place box = with_widened columns rank place box (slice_get columns rank)

-- the number of a lane of a staff among those of the system, if the staff has `lanes` from `start` on
abbrev pub place_of_lane : ℕ → ℕ → Option ℕ → Option ℕ
place_of_lane start lanes None = None
place_of_lane start lanes (Some number) = if nat_lt number lanes then Some (start + number) else None

abbrev pub widened_by : List Column → Option ℕ → Option ℕ → Option Sides → List Column
widened_by columns None place box = columns
widened_by columns (Some rank) None box = columns
widened_by columns (Some rank) (Some place) None = columns
widened_by columns (Some rank) (Some place) (Some box) = widened_at columns rank place box

abbrev pub widened_by_mark : List Column → ℕ → ℕ → Laid → List Column
widened_by_mark columns start lanes laid =
    widened_by columns (rank_of_mark laid.mark) (place_of_lane start lanes (lane_number laid.lane)) (sides_of laid.mark)

abbrev pub widened_by_marks : List Column → ℕ → ℕ → List Laid → List Column
widened_by_marks columns start lanes [] = columns
widened_by_marks columns start lanes (laid ∷ more) =
    widened_by_marks (widened_by_mark columns start lanes laid) start lanes more

-- staff by staff, with lanes from `start` on
abbrev pub widened_by_staves : List Column → ℕ → List StaffMarks → List ℕ → List Column
widened_by_staves columns start [] verses = columns
widened_by_staves columns start (staff ∷ staves) [] = columns
widened_by_staves columns start (staff ∷ staves) (verses ∷ more) =
    widened_by_staves (widened_by_marks columns start (lane_count verses) staff.marks) (start + lane_count verses)
    staves more
