-- The columns of a system: one for each key, with its reach in each lane and the natural length of the spring after
-- it.
use Rattle.std.specs.Prelude.{◌≡◌, ℕ, ◌+◌, ◌*◌, ◌/◌, ◌<◌, ◌≤◌, ◌⊎◌, pos, neg_ℤ, ◌≤ℤ◌, true, List, [], ◌∷◌, length, All}
use Rattle.std.specs.Prelude.{Contains, Option, Some, IfSome, option_and_then, slice_get}
use Rattle.mus_onsets.specs.declared.keys.ColumnKey.{ColumnKey}
use Rattle.mus_laid.specs.Boxes.{sides_of}
use Rattle.mus_laid.specs.declared.boxes.Sides.{Sides}
use Rattle.mus_laid.specs.declared.laid.Laid.{Laid}
use Rattle.mus_laid.specs.declared.laid.StaffMarks.{StaffMarks}
use Rattle.lay_springs.specs.declared.traits.Reach.{Reach}
use Rattle.lay_springs.specs.Fit.{StandsInAll}
use Rattle.lay_springs.specs.Place.{reach_at}
use Rattle.lay_springs.specs.ReachView.{most_reach, reach_in}
use Rattle.lay_reaches.specs.declared.column.Column.{Column}
use Rattle.lay_reaches.specs.Column.{spring_length}
use Rattle.lay_reaches.specs.Distances.{most_length}
use Rattle.lay_reaches.specs.Lanes.{gaps_of, lane_count, lane_number, lane_start}
use Rattle.lay_reaches.specs.Naturals.{natural_of}
use Rattle.lay_reaches.specs.Reaches.{rank_of_mark, reaches_of, stands_always}

-- keys from some rank on
abbrev pub columns_from : ℕ → List ColumnKey → List StaffMarks → List ℕ → List ℕ → List Column
columns_from rank [] staves lengths verses = []
columns_from rank (key ∷ following) staves lengths verses = record {
  key = key;
  reaches = reaches_of (stands_always key.class) rank staves verses;
  natural = natural_of key following lengths;
} ∷ columns_from (rank + 1) following staves lengths verses

abbrev pub columns_of : List ColumnKey → List StaffMarks → List ℕ → List ℕ → List Column
columns_of keys staves lengths verses = columns_from 0 keys staves lengths verses

-- the reach of a column, as placing needs it
abbrev pub column_reach : Column → ℕ → Option Reach
column_reach column lane = reach_in column.reaches lane

-- a reach covers a box, or is cut
abbrev pub Covers : Reach → Sides → Type 0
Covers reach box =
    ((neg_ℤ box.left ≤ℤ pos reach.left) ⊎ (reach.left ≡ most_reach))
    × ((box.right ≤ℤ pos reach.right) ⊎ (reach.right ≡ most_reach))

-- each mark with a box is covered by the reach of its column in its lane
abbrev pub CoverMarks : List StaffMarks → List ℕ → List Column → Type 0
CoverMarks staves verses columns =
    (s rank lane count : ℕ) (staff : StaffMarks) (laid : Laid) (box : Sides)
    → slice_get staves s ≡ Some staff → slice_get verses s ≡ Some count → Contains staff.marks laid
    → rank_of_mark laid.mark ≡ Some rank → rank < length columns → lane_number laid.lane ≡ Some lane
    → lane < lane_count count
    → sides_of laid.mark ≡ Some box
    → (reach : Reach)
    × (reach_at column_reach columns rank (lane_start verses s + lane) ≡ Some reach)
    × Covers reach box

-- a column of a head, of the bar before the first measure or of a bar is in each lane
abbrev pub StandsWhereDue : List ℕ → Column → Type 0
StandsWhereDue verses column =
    stands_always column.key.class ≡ true → StandsInAll (column_reach column) (length (gaps_of verses))

abbrev pub IsNearReach : Reach → Type 0
IsNearReach reach = (reach.left ≤ most_reach) × (reach.right ≤ most_reach)

pub record IsSmall (column : Column) : Type 0 where
  pub natural : column.natural ≤ most_length
  pub reaches : All (λ o. IfSome o IsNearReach) column.reaches

-- as placing sees it, nothing of the column is cut
pub record IsUncut (column : Column) : Type 0 where
  pub reach : (lane : ℕ) → column_reach column lane ≡ option_and_then (λ o. o) (slice_get column.reaches lane)
  pub spring : (force : ℕ) → spring_length column.natural force ≡ column.natural * force / 256
