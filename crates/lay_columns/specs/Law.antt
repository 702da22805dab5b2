-- The columns of measures, one after the other, are those of the system.
use Rattle.std.specs.Prelude.{◌≡◌, ℕ, ◌+◌, ◌<◌, ◌≤◌, ◌==◌, ⊤, List, [], ◌∷◌, length, flat_map}
use Rattle.mus_score.specs.declared.score.Score.{Score}
use Rattle.mus_score.specs.GoodScore.{IsGoodScore}
use Rattle.mus_onsets.specs.declared.times.Timeline.{Timeline}
use Rattle.mus_onsets.specs.Onsets.{timeline_of}
use Rattle.mus_laid.specs.declared.laid.SystemMarks.{SystemMarks}
use Rattle.mus_marks.specs.System.{IsCall}
use Rattle.lay_reaches.specs.declared.column.Column.{Column}
use Rattle.lay_reaches.specs.Columns.{columns_of}
use Rattle.lay_columns.specs.Measures.{AreMeasureColumns}

-- the columns of measure m, those of measure m + 1, and so on, in a system that begins with measure a
abbrev pub AreColumnsFrom : Score → Timeline → ℕ → ℕ → List ℕ → List (List Column) → Type 0
AreColumnsFrom s t a m verses [] = ⊤
AreColumnsFrom s t a m verses (columns ∷ more) =
    AreMeasureColumns (a == m) s t m verses columns × AreColumnsFrom s t a (m + 1) verses more

abbrev pub one_after_the_other : List (List Column) → List Column
one_after_the_other measures = flat_map (λ columns. columns) measures

-- of the system of measures a to b - 1, for any numbers of verses
abbrev pub MeasuresJoin : Type 0
MeasuresJoin =
    (s : Score) (t : Timeline) (a b : ℕ) (m : SystemMarks) (verses : List ℕ) (measures : List (List Column))
    → IsGoodScore s → t ≡ timeline_of s → a < b
    → a + length measures ≡ b → b ≤ s.measures → IsCall s t a b m → AreColumnsFrom s t a a verses measures
    → columns_of m.keys m.staves t.lengths verses ≡ one_after_the_other measures
