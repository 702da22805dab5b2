-- The columns of a system: as many as its keys, and the first and the last are in each lane.
use Rattle.std.proofs.Common.{◌≡◌, ◌∙◌, sym, ap, subst, ℕ, ◌-◌, ◌<◌, ◌≤◌, true, List, [], length, get_or, arith}
use Rattle.std.proofs.lemmas.List.{get_or-map, length-map}
use Rattle.std.proofs.lemmas.Option.{slice_get-get_or}
use Rattle.mus_score.specs.declared.score.Score.{Score}
use Rattle.mus_score.specs.GoodScore.{IsGoodScore}
use Rattle.mus_onsets.specs.declared.keys.Class.{Class}
use Rattle.mus_onsets.specs.declared.keys.ColumnKey.{ColumnKey}
use Rattle.mus_onsets.specs.Keys.{key_at}
use Rattle.mus_onsets.specs.Onsets.{timeline_of}
use Rattle.mus_laid.specs.declared.laid.StaffMarks.{StaffMarks}
use Rattle.mus_laid.specs.declared.laid.SystemMarks.{SystemMarks}
use Rattle.mus_marks.specs.Staff.{staff_marks, verses_on}
use Rattle.mus_marks.specs.System.{drawn_staves}
use Rattle.lay_springs.{specs.{Fit.StandsInAll, Place.reach_at}, proofs.Extending.reach_is}
use Rattle.lay_reaches.specs.declared.column.Column.{Column}
use Rattle.lay_reaches.specs.Columns.{StandsWhereDue, column_reach, columns_of}
use Rattle.lay_reaches.specs.Lanes.{gaps_of}
use Rattle.lay_reaches.specs.Reaches.{stands_always}
use Rattle.lay_reaches.proofs.Facts.{columns_keys, columns_stand}
use Rattle.lay_tune.specs.Spans.{IsSystemOf, score_gaps, system_columns, verses_of}
use Rattle.lay_tune.proofs.Within.{system_count}
use Rattle.law_marks_apart.proofs.EndKeys.{first_class, last_class, some_keys}

module _ (keys : List ColumnKey) (staves : List StaffMarks) (lengths verses : List ℕ) where
  abbrev columns : List Column
  columns = columns_of keys staves lengths verses

  abbrev no_column : Column
  no_column = record { key = key_at 0 0 Class.Head 0; reaches = []; natural = 0 }

  -- a column of a class that is always in each lane has a reach in each
  pub stands_at : (i : ℕ) → i < length keys → length verses ≡ length staves
      → ((d : ColumnKey) → stands_always (get_or keys i d).class ≡ true)
      → StandsInAll (reach_at column_reach columns i) (length (gaps_of verses))
  stands_at i l same always lane m =
      let count : length columns ≡ length keys =
      sym (length-map columns (λ c. c.key)) ∙ ap (λ ks. length ks) (columns_keys staves lengths verses 0 keys) in
      let inside : i < length columns = subst (λ n. i < n) (sym count) l in let column = get_or columns i no_column in
      let key : get_or keys i no_column.key ≡ column.key =
      ap (λ ks. get_or ks i no_column.key) (sym (columns_keys staves lengths verses 0 keys))
      ∙ get_or-map (λ c. c.key) columns i no_column no_column.key inside in
      let due : StandsWhereDue verses column = columns_stand staves lengths verses keys same i no_column inside in
      let stands = due (ap (λ k. stands_always k.class) (sym key) ∙ always no_column.key) lane m in (
        stands.0,
        ap (λ r. r lane) (reach_is column_reach columns i column (slice_get-get_or columns i no_column inside))
            ∙ stands.1,
      )

module _ (s : Score) (a b : ℕ) (m : SystemMarks) (good : IsGoodScore s) (order : a < b) (within : b ≤ s.measures)
    (is : IsSystemOf s a b m) where
  same_staves : length (verses_of s) ≡ length m.staves
  same_staves =
      length-map (drawn_staves s) verses_on
      ∙ sym (ap (λ staves. length staves) is.staves
      ∙ length-map (drawn_staves s) (staff_marks m.keys (timeline_of s).lengths a b))

  pub first_stands : 1 ≤ length s.voices
      → StandsInAll (reach_at column_reach (system_columns s m) 0) (length (score_gaps s))
  first_stands some =
      stands_at m.keys m.staves (timeline_of s).lengths (verses_of s) 0
      (some_keys s a b m.keys good order within some is.keys) same_staves
      (λ d. ap stands_always (first_class s a b m.keys good order within some is.keys d))

  pub last_stands : 1 ≤ length s.voices
      → StandsInAll (reach_at column_reach (system_columns s m) (length (system_columns s m) - 1))
      (length (score_gaps s))
  last_stands some =
      let n = some_keys s a b m.keys good order within some is.keys in
      subst (λ n. StandsInAll (reach_at column_reach (system_columns s m) (n - 1)) (length (score_gaps s)))
      (sym (system_count s m))
      (stands_at m.keys m.staves (timeline_of s).lengths (verses_of s) (length m.keys - 1) (omega arith) same_staves
      (λ d. ap stands_always (last_class s a b m.keys good order within some is.keys d)))
