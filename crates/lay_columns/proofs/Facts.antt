-- Facts of the columns of one measure: they belong to it, the last is its bar, and texts are short.
use Rattle.std.proofs.Common.{◌≡◌, ◌∙◌, ℕ, zero, suc, ◌+◌, ◌<◌, ◌≤◌, ◌⊎◌, inl, inr, Bool, true, false, List, []}
use Rattle.std.proofs.Common.{◌∷◌, length, map, Some, Ok, Err, IfOk, Result, refl, sym, ap, subst, arith}
use Rattle.std.proofs.lemmas.Bool.Decides.{nat_tests}
use Rattle.std.proofs.lemmas.List.{length-map}
use Rattle.std.proofs.lemmas.List.Elements.{All-from_recursion, Contains-append_left, Contains-append_right}
use Rattle.std.proofs.lemmas.List.Elements.{recursion_from_All}
use Rattle.std.specs.List.{All, AllByRecursion, Contains, flat_map, slice_index, slice_range}
use Rattle.mus_score.specs.declared.score.Score.{Score}
use Rattle.mus_score.specs.declared.score.Voice.{Voice}
use Rattle.mus_score.specs.GoodScore.{IsGoodScore, IsLed}
use Rattle.mus_onsets.specs.declared.keys.Class.{Class}
use Rattle.mus_onsets.specs.declared.keys.ColumnKey.{ColumnKey}
use Rattle.mus_onsets.specs.declared.times.Timeline.{Timeline}
use Rattle.mus_onsets.specs.Onsets.{timeline_of}
use Rattle.mus_onsets.specs.Keys.{AreKeys, IsInSystem, bar_key, keys_by}
use Rattle.mus_onsets.specs.Order.{BelowAll, is_below, Rises}
use Rattle.mus_drawn.specs.declared.drawn.DrawnMeasure.{DrawnMeasure}
use Rattle.mus_drawn.specs.declared.drawn.DrawnVoice.{DrawnVoice}
use Rattle.mus_drawn.specs.Drawn.{drawn_voice}
use Rattle.mus_laid.specs.declared.laid.Laid.{Laid}
use Rattle.mus_laid.specs.Boxes.{AreGoodMarks}
use Rattle.mus_stems.proofs.RunLaws.{all_append}
use Rattle.mus_time.specs.Columns.{events_columns, front_columns, keys_called, measures_columns, range_columns}
use Rattle.mus_time.specs.Columns.{staff_columns}
use Rattle.mus_time.proofs.Called.{called_places, called_same}
use Rattle.mus_time.proofs.Counts.{voice_count}
use Rattle.mus_slots.proofs.Marks.{FitsVoice, range_laid}
use Rattle.mus_slots.proofs.Ranges.{slice_long}
use Rattle.mus_marks.specs.System.{drawn_staves}
use Rattle.mus_marks.proofs.Fitting.{staves_fit}
use Rattle.mus_marks.proofs.Inside.{here, none_there}
use Rattle.mus_marks.proofs.OneList.{first_or}
use Rattle.mus_marks.proofs.GoodMarks.{goods, IsGood}
use Rattle.lay_reaches.specs.declared.column.Column.{Column}
use Rattle.lay_reaches.specs.Columns.{StandsWhereDue}
use Rattle.lay_reaches.specs.Widened.{HaveGoodMarks}
use Rattle.lay_reaches.proofs.Facts.{columns_stand}
use Rattle.lay_columns.specs.Measures.{AreMeasureColumns, EndWithBar, fixed_place, keys_in, measure_staff}
use Rattle.lay_columns.specs.Measures.{parts_from, range_part}

-- ---- returned values
pub ok_through : {X E : Type 0} (P Q : X → Type 0) → ((x : X) → P x → Q x) → (r : Result X E) → IfOk r P → IfOk r Q
ok_through P Q f (Ok x) h = f x h
ok_through P Q f (Err e) h = tt

keys_all : (P : ColumnKey → Type 0) (cs : List Column)
    → AllByRecursion P (keys_in cs) → AllByRecursion (λ c. P c.key) cs
keys_all P [] h = tt
keys_all P (c ∷ cs) h = (h.0, keys_all P cs h.1)

pub places : (P : ColumnKey → Type 0) (keys : List ColumnKey) (cs : List Column)
    → All P keys → keys_in cs ≡ keys → All (λ c. P c.key) cs
places P keys cs all e =
    All-from_recursion (λ c. P c.key) cs
    (keys_all P cs (recursion_from_All P (keys_in cs) (subst (λ ks. All P ks) (sym e) all)))

-- ---- the bar
bar_class : (lengths : List ℕ) (m : ℕ) (k : ColumnKey)
    → is_below (bar_key lengths m) k ≡ true → IsInSystem lengths m (m + 1) k → k.class ≡ Class.Bar
unfolding is_below
bar_class lengths m k below place =
    let same : k.measure ≡ m = let from = place.from in let to = place.to in omega (arith, from, to) in
    let late : k.tick ≤ slice_index lengths m = subst (λ n. k.tick ≤ slice_index lengths n) same place.within in
    by k.class refl same late
  where
    by : (class : Class) → k.class ≡ class → k.measure ≡ m → k.tick ≤ slice_index lengths m → class ≡ Class.Bar
    by Class.Head e same late = grind (arith, nat_tests, e, same, late, below)
    by Class.First e same late = grind (arith, nat_tests, e, same, late, below)
    by Class.Change e same late = grind (arith, nat_tests, e, same, late, below)
    by Class.Grace e same late = grind (arith, nat_tests, e, same, late, below)
    by Class.Note e same late = grind (arith, nat_tests, e, same, late, below)
    by Class.Bar e same late = refl

one_before : (c : Column) (cs : List Column) → EndWithBar cs → EndWithBar (c ∷ cs)
one_before c cs more =
    record { prefix = c ∷ more.prefix; last = more.last; parts = ap (λ t. c ∷ t) more.parts; bar = more.bar }

-- the bar of the measure is one of these columns, or before them
ends : (lengths : List ℕ) (m : ℕ) (c : Column) (cs : List Column)
    → Rises (keys_in (c ∷ cs)) → AllByRecursion (λ c. IsInSystem lengths m (m + 1) c.key) (c ∷ cs)
    → Contains (keys_in (c ∷ cs)) (bar_key lengths m) ⊎ BelowAll (bar_key lengths m) (keys_in (c ∷ cs))
    → EndWithBar (c ∷ cs)
ends lengths m c [] rise all place = record { prefix = []; last = c; parts = refl; bar = by place }
  where
    by : Contains (c.key ∷ []) (bar_key lengths m) ⊎ BelowAll (bar_key lengths m) (c.key ∷ []) → c.key.class ≡ Class.Bar
    by (inl (zero, inside, is)) = ap (λ k. k.class) is
    by (inl (suc i, inside, is)) = absurd (omega (arith, inside))
    by (inr below) = bar_class lengths m c.key below.0 all.0
ends lengths m c (d ∷ cs) rise all (inl has) =
    one_before c (d ∷ cs)
    (ends lengths m d cs rise.1 all.1
    (elim (first_or (bar_key lengths m) c.key (keys_in (d ∷ cs)) has) [
      | inl e ↦ inr (subst (λ k. BelowAll k (keys_in (d ∷ cs))) e rise.0)
      | inr i ↦ inl i
    ]))
ends lengths m c (d ∷ cs) rise all (inr below) =
    one_before c (d ∷ cs) (ends lengths m d cs rise.1 all.1 (inr below.1))

pub end_with_bar : (lengths : List ℕ) (m : ℕ) (cs : List Column)
    → Rises (keys_in cs) → All (λ c. IsInSystem lengths m (m + 1) c.key) cs → Contains (keys_in cs) (bar_key lengths m)
    → EndWithBar cs
end_with_bar lengths m [] rise all has = absurd (none_there (bar_key lengths m) has)
end_with_bar lengths m (c ∷ cs) rise all has =
    ends lengths m c cs rise (recursion_from_All (λ c. IsInSystem lengths m (m + 1) c.key) (c ∷ cs) all) (inl has)

first_bar : (lengths : List ℕ) (m : ℕ) (in_head : Bool) (ds : List DrawnMeasure)
    → 1 ≤ length ds → Contains (measures_columns lengths m in_head ds) (bar_key lengths m)
first_bar lengths m in_head [] some = absurd (omega (arith, some))
first_bar lengths m in_head (d ∷ ds) some =
    let bar = bar_key lengths m in
    let more = measures_columns lengths (m + 1) false ds in
    Contains-append_right (events_columns m in_head d.events) (bar ∷ more) bar (here bar more)

-- the first voice calls for all its columns
led_bar : (begins : Bool) (lengths : List ℕ) (m n : ℕ) (vs : List Voice)
    → 1 ≤ length vs → IsLed vs → All (λ v. length v.measures ≡ n) vs → m < n
    → Contains (flat_map (staff_columns begins lengths m (m + 1)) (map drawn_voice vs)) (bar_key lengths m)
unfolding drawn_voice
led_bar begins lengths m n [] some led same within = absurd (omega (arith, some))
led_bar begins lengths m n (v ∷ vs) some led same within =
    let d = drawn_voice v in
    let all = same 0 v (omega arith) in
    let long = slice_long m (m + 1) d.measures (omega (arith, within, all, voice_count v)) in
    Contains-append_left (staff_columns begins lengths m (m + 1) d)
    (flat_map (staff_columns begins lengths m (m + 1)) (map drawn_voice vs)) (bar_key lengths m)
    (subst (λ lower. Contains (keys_by lower (range_columns begins lengths m (m + 1) d)) (bar_key lengths m)) (sym led)
    (Contains-append_right (front_columns begins m d.first) _ (bar_key lengths m)
    (first_bar lengths m begins (slice_range d.measures m (m + 1)) (omega (arith, long)))))

pub called_has_bar : (begins : Bool) (s : Score) (lengths : List ℕ) (m : ℕ)
    → IsGoodScore s → 1 ≤ length s.voices → m < s.measures
    → Contains (keys_called begins s lengths m) (bar_key lengths m)
called_has_bar begins s lengths m good some within =
    subst (λ ks. Contains ks (bar_key lengths m)) (sym (called_same begins s lengths m))
    (led_bar begins lengths m s.measures s.voices some good.led good.measures within)

module _ (begins : Bool) (s : Score) (t : Timeline) (m : ℕ) (verses : List ℕ) (columns : List Column)
    (are : AreMeasureColumns begins s t m verses columns) where
  pub measure_bar : IsGoodScore s → t ≡ timeline_of s → 1 ≤ length s.voices → m < s.measures → EndWithBar columns
  measure_bar good timed some within =
      let lengths = t.lengths in let keys = keys_in columns in
      let inside = subst (λ z. All (IsInSystem z.lengths m (m + 1)) keys) (sym timed)
      (called_places begins s m keys good within
      (subst (λ z. AreKeys keys (keys_called begins s z.lengths m)) timed are.keys)) in
      end_with_bar lengths m columns are.keys.rise (places (IsInSystem lengths m (m + 1)) keys columns inside refl)
      (are.keys.all (bar_key lengths m) (called_has_bar begins s lengths m good some within))

  pub measure_stands : length verses ≡ length (drawn_staves s) → All (StandsWhereDue verses) columns
  measure_stands count =
      let staves = map (measure_staff begins (keys_in columns) t.lengths m) (drawn_staves s) in
      subst (All (StandsWhereDue verses)) (sym are.value)
      (columns_stand staves t.lengths verses (keys_in columns)
      (count ∙ sym (length-map (drawn_staves s) (measure_staff begins (keys_in columns) t.lengths m))))

-- ---- texts
module _ (keys : List ColumnKey) (lengths : List ℕ) (m : ℕ) where
  abbrev part : Bool → ℕ → DrawnVoice → List Laid
  part begins first v = range_part begins keys lengths m (m + 1) first v

  part_good : (begins : Bool) (first : ℕ) (v : DrawnVoice)
      → FitsVoice v → AllByRecursion IsGood (part begins first v)
  part_good begins first v fits =
      let all = first + v.verses in
      range_laid all keys IsGood (goods all keys) lengths m (m + 1) begins (Some fixed_place) first v (omega arith) fits

  parts_good : (begins : Bool) (first : ℕ) (vs : List DrawnVoice)
      → AllByRecursion FitsVoice vs
      → AllByRecursion IsGood (parts_from (part begins) first vs)
  parts_good begins first [] fits = tt
  parts_good begins first (v ∷ vs) fits =
      all_append IsGood (part begins first v)
      (parts_from (part begins) (first + v.verses) vs)
      (part_good begins first v fits.0) (parts_good begins (first + v.verses) vs fits.1)

  each_good : (begins : Bool) (staves : List (List DrawnVoice))
      → AllByRecursion (AllByRecursion FitsVoice) staves
      → AllByRecursion (λ s. AreGoodMarks s.marks) (map (measure_staff begins keys lengths m) staves)
  each_good begins [] fits = tt
  each_good begins (vs ∷ staves) fits = (parts_good begins 0 vs fits.0, each_good begins staves fits.1)

  pub staves_good : (begins : Bool) (s : Score)
      → IsGoodScore s → HaveGoodMarks (map (measure_staff begins keys lengths m) (drawn_staves s))
  staves_good begins s good =
      All-from_recursion (λ s. AreGoodMarks s.marks) (map (measure_staff begins keys lengths m) (drawn_staves s))
      (each_good begins (drawn_staves s) (staves_fit s good))
