-- The spans of a score that fit a width, determined by the marks that the score calls for in each.
use Rattle.std.specs.Prelude.{◌≡◌, ℕ, ◌<◌, ◌≤◌, ◌==◌, Bool, List, map, Some, IsSome}
use Rattle.mus_score.specs.declared.score.Score.{Score}
use Rattle.mus_onsets.specs.Onsets.{timeline_of}
use Rattle.mus_laid.specs.declared.laid.SystemMarks.{SystemMarks}
use Rattle.mus_marks.specs.Staff.{verses_on}
use Rattle.mus_marks.specs.System.{IsCall, drawn_staves}
use Rattle.lay_reaches.specs.declared.column.Column.{Column}
use Rattle.lay_reaches.specs.Column.{spring_length}
use Rattle.lay_reaches.specs.Columns.{column_reach, columns_of}
use Rattle.lay_reaches.specs.Lanes.{gaps_of}
use Rattle.lay_breaks.specs.declared.costs.Span.{Span}
use Rattle.lay_breaks.specs.Spans.{listed}
use Rattle.lay_rows.specs.Badness.{badness_of}
use Rattle.lay_spans.specs.Columns.{span_columns}
use Rattle.lay_spans.specs.Forced.{ForcedInside, is_forced}
use Rattle.lay_spans.specs.SpanList.{IsForce, FitsAtForce}

-- the number of verses of each staff
abbrev pub verses_of : Score → List ℕ
verses_of s = map verses_on (drawn_staves s)

-- the gaps that the columns of a score keep in their lanes
abbrev pub score_gaps : Score → List ℕ
score_gaps s = gaps_of (verses_of s)

abbrev pub is_forced_in : Score → ℕ → Bool
is_forced_in s = is_forced s.measures s.forced

-- m is the system that the score calls for in measures a to b - 1
abbrev pub IsSystemOf : Score → ℕ → ℕ → SystemMarks → Type 0
IsSystemOf s a b m = IsCall s (timeline_of s) a b m

-- the columns of a system, by its marks
abbrev pub system_columns : Score → SystemMarks → List Column
system_columns s m = columns_of m.keys m.staves (timeline_of s).lengths (verses_of s)

-- the length of the spring at a column
abbrev pub column_length : Column → ℕ → ℕ
column_length column force = spring_length column.natural force

-- force is the greatest from 0 to 2048 at which the columns end within the width
abbrev pub IsForceOf : List ℕ → ℕ → List Column → ℕ → Type 0
IsForceOf gaps width columns force = IsForce column_reach column_length gaps width columns force

-- the columns can be within the width at force 0
abbrev pub CanStandIn : List ℕ → ℕ → List Column → Type 0
CanStandIn gaps width columns = FitsAtForce column_reach column_length gaps width 0 columns

-- the span from bar a to bar b fits and costs v: no forced bar is strictly inside, and v is the badness of the
-- greatest force of the columns that the score calls for there
pub record IsSpanCost (s : Score) (width a b v : ℕ) : Type 0 where
  pub free : ForcedInside (is_forced_in s) a b → ⊥
  pub pressed : (force : ℕ)
      × (v ≡ badness_of (b == s.measures) force)
      × ((m : SystemMarks) → IsSystemOf s a b m → IsForceOf (score_gaps s) width (system_columns s m) force)

-- the list has exactly the spans of the score that fit the width and have no forced bar strictly inside, each with
-- its cost
pub record AreSpansOf (s : Score) (width : ℕ) (spans : List Span) : Type 0 where
  pub each : (a b v : ℕ) → a < b → b ≤ s.measures → listed spans a b ≡ Some v → IsSpanCost s width a b v
  pub fits : (a b : ℕ) (m : SystemMarks)
      → a < b → b ≤ s.measures → (ForcedInside (is_forced_in s) a b → ⊥) → IsSystemOf s a b m
      → CanStandIn (score_gaps s) width (system_columns s m)
      → IsSome (listed spans a b)

-- The columns of each measure, where it begins a system and where it doesn't, are those of the systems: put one after
-- the other they are the columns of the marks that the score calls for.
abbrev pub AreColumnsOf : Score → List (List Column) → List (List Column) → Type 0
AreColumnsOf s starts others =
    (a b : ℕ) (m : SystemMarks)
    → a < b → b ≤ s.measures → IsSystemOf s a b m → system_columns s m ≡ span_columns starts others a b
