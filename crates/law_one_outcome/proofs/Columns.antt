-- Each measure of a score has its columns, in a system that begins with it and in one that began before.
use Rattle.std.proofs.Common.{◌≡◌, ℕ, zero, suc, ◌-◌, ◌<◌, ◌≤◌, ◌==◌, Bool, List, [], ◌∷◌, ◌++◌, length, length-append}
use Rattle.std.proofs.Common.{map, slice_index_or, refl, sym, ◌∙◌, ap, subst, arith}
use Rattle.mus_score.specs.declared.score.Score.{Score}
use Rattle.mus_score.specs.GoodScore.{IsGoodScore}
use Rattle.mus_onsets.specs.declared.keys.ColumnKey.{ColumnKey}
use Rattle.mus_onsets.specs.declared.times.Timeline.{Timeline}
use Rattle.mus_onsets.specs.Keys.{AreKeys}
use Rattle.mus_onsets.specs.Onsets.{timeline_of}
use Rattle.mus_laid.specs.declared.laid.StaffMarks.{StaffMarks}
use Rattle.mus_time.specs.Columns.{keys_called}
use Rattle.mus_marks.specs.System.{drawn_staves}
use Rattle.lay_reaches.specs.declared.column.Column.{Column}
use Rattle.lay_reaches.specs.Columns.{column_reach, columns_of}
use Rattle.lay_reaches.proofs.Facts.{columns_keys}
use Rattle.lay_columns.specs.Measures.{AreMeasureColumns, keys_in, measure_staff}
use Rattle.lay_columns.proofs.Joined.{measures_join}
use Rattle.lay_spans.specs.Columns.{AreMeasures}
use Rattle.lay_spans.proofs.Growing.{each_more}
use Rattle.lay_tune.specs.Measures.{EachMeasure, IsMeasure}
use Rattle.lay_tune.specs.Spans.{AreColumnsOf, score_gaps, verses_of}
use Rattle.lay_tune.proofs.Joins.{columns_join, measure_of}
use Rattle.lay_tune.proofs.RisingKeys.{have_keys}

-- what each of n indices has, as a list
pub has_each : {X : Type 0} (d : X) (P : ℕ → X → Type 0) (n : ℕ)
    → ((m : ℕ) → m < n → (x : X) × P m x)
    → (xs : List X) × (length xs ≡ n) × ((m : ℕ) → m < n → P m (slice_index_or xs m d))
has_each d P zero one = ([], refl, λ m l. absurd (omega (arith, l)))
has_each d P (suc n) one =
    let before = has_each d P n (λ m l. one m (omega (arith, l))) in
    let here = one n (omega arith) in
    let same = before.1 in
    let count = length-append before.0 (here.0 ∷ []) in (
      before.0 ++ here.0 ∷ [],
      omega (arith, count, same),
      λ m l.
          each_more P before.0 here.0 d (λ m l. before.2 m (omega (arith, l, same)))
          (subst (λ i. P i here.0) (sym same) here.1) m (omega (arith, l, count, same)),
    )

-- the columns of one measure
has_columns : (begins : Bool) (s : Score) (t : Timeline) (m : ℕ) (verses : List ℕ)
    → (columns : List Column) × AreMeasureColumns begins s t m verses columns
has_columns begins s t m verses =
    let keys = have_keys (keys_called begins s t.lengths m) in
    let staves : List ColumnKey → List StaffMarks = λ ks. map (measure_staff begins ks t.lengths m) (drawn_staves s) in
    let same : keys.0 ≡ keys_in (columns_of keys.0 (staves keys.0) t.lengths verses) =
    sym (columns_keys (staves keys.0) t.lengths verses 0 keys.0) in (
      columns_of keys.0 (staves keys.0) t.lengths verses,
      record {
        keys = subst (λ ks. AreKeys ks (keys_called begins s t.lengths m)) same keys.1;
        value = ap (λ ks. columns_of ks (staves ks) t.lengths verses) same;
      },
    )

-- those of all measures, each in a system that begins with the measure that `from` gives
has_measures : (s : Score) (from : ℕ → ℕ)
    → IsGoodScore s → (0 < s.measures → 1 ≤ length s.voices)
    → (rows : List (List Column)) × EachMeasure (λ m. IsMeasure s (from m) m) s.measures rows
has_measures s from good heard =
    let all = has_each [] (λ m. IsMeasure s (from m) m) s.measures (λ m l.
    let c = has_columns (from m == m) s (timeline_of s) m (verses_of s) in
    (c.0, measure_of s (timeline_of s) (from m) m (verses_of s) c.0 good refl refl (heard (omega (arith, l))) l c.1)) in
    (all.0, record { count = all.1; each = all.2 })

-- the columns that determine the spans of a score
pub record HasMeasures (s : Score) : Type 0 where
  pub starts : List (List Column)
  pub others : List (List Column)
  pub count : length starts ≡ s.measures
  pub measures : AreMeasures column_reach (length (score_gaps s)) starts others
  pub join : AreColumnsOf s starts others

pub have_measures : (s : Score) → IsGoodScore s → (0 < s.measures → 1 ≤ length s.voices) → HasMeasures s
have_measures s good heard =
    let starts = has_measures s (λ m. m) good heard in
    let others = has_measures s (λ m. m - 1) good heard in
    let count = starts.1.count in
    record {
      starts = starts.0;
      others = others.0;
      count = count;
      measures = record {
        same = others.1.count ∙ sym count;
        few = let few = good.few_measures in omega (arith, few, count);
        begun = λ m l. (starts.1.each m (omega (arith, l, count))).ends.some;
        ended = λ m l. (others.1.each m (omega (arith, l, count))).ends;
      };
      join = columns_join measures_join s starts.0 others.0 good starts.1 others.1;
    }
