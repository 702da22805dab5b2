-- The columns of each measure of a score, in a system that begins with a measure.
use Rattle.std.specs.Prelude.{◌≡◌, ℕ, ◌<◌, ◌==◌, List, [], length, Option, None, slice_index_or}
use Rattle.mus_score.specs.declared.score.Score.{Score}
use Rattle.mus_onsets.specs.Onsets.{timeline_of}
use Rattle.lay_reaches.specs.declared.column.Column.{Column}
use Rattle.lay_reaches.specs.Columns.{column_reach}
use Rattle.lay_columns.specs.Measures.{AreFurther, AreMeasureColumns}
use Rattle.lay_spans.specs.Columns.{EndsInAll}
use Rattle.lay_tune.specs.Spans.{score_gaps, verses_of}

-- of measure m in a system that begins with measure a; the last is in each lane
pub record IsMeasure (s : Score) (a m : ℕ) (columns : List Column) : Type 0 where
  pub called : AreMeasureColumns (a == m) s (timeline_of s) m (verses_of s) columns
  pub ends : EndsInAll column_reach (length (score_gaps s)) columns

-- a list of columns for each of the first n measures
pub record EachMeasure (P : ℕ → List Column → Type 0) (n : ℕ) (rows : List (List Column)) : Type 0 where
  pub count : length rows ≡ n
  pub each : (m : ℕ) → m < n → P m (slice_index_or rows m [])

-- the columns that each of the first n measures has of its own in a system that begins with the measure before it
pub record EachFurther (s : Score) (n : ℕ) (own : List (Option (List Column))) : Type 0 where
  pub count : length own ≡ n
  pub each : (m : ℕ) → m < n → AreFurther s (timeline_of s) m (verses_of s) (slice_index_or own m None)
