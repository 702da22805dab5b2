-- After its head, a measure that begins without a change has the columns that it has in a system which began before.
use Rattle.std.proofs.Common.{◌≡◌, ◌∙◌, ℕ, zero, suc, ◌+◌, ◌-◌, ◌<◌, ◌≤◌, ◌==◌, ◌&&◌, ◌||◌, not, Bool, true, false, min}
use Rattle.std.proofs.Common.{List, [], ◌∷◌, length, take, drop, map, Option, None, is_none, refl, sym, ap, subst}
use Rattle.std.proofs.Common.{arith}
use Rattle.std.proofs.lemmas.Bool.Decides.{nat_tests}
use Rattle.std.proofs.lemmas.List.Elements.{recursion_from_All}
use Rattle.std.proofs.lemmas.List.Sums.{AllPass-from_list_all}
use Rattle.std.specs.List.{AllByRecursion, Contains, flat_map, list_all, slice_get, slice_range}
use Rattle.std.specs.Prelude.{is_some}
use Rattle.mus_units.specs.declared.key.Key.{Key}
use Rattle.mus_units.specs.declared.key.Meter.{Meter}
use Rattle.mus_units.specs.declared.pitch.Clef.{Clef}
use Rattle.mus_score.specs.declared.score.{Changes.Changes, Score.Score, Voice.Voice}
use Rattle.mus_score.specs.{GoodScore.IsGoodScore, Seats.is_lower}
use Rattle.mus_onsets.specs.declared.keys.ColumnKey.{ColumnKey}
use Rattle.mus_onsets.specs.declared.times.Timeline.{Timeline}
use Rattle.mus_onsets.specs.Keys.{AreKeys, change_has_mark, head_key, key_has_mark, measure_keys, meter_has_mark}
use Rattle.mus_onsets.specs.Keys.{voice_keys}
use Rattle.mus_onsets.specs.Onsets.{timeline_of}
use Rattle.mus_onsets.specs.Order.{BelowAll, is_below, same_key}
use Rattle.mus_onsets.proofs.RankLaws.{false_not_true}
use Rattle.mus_laid.specs.declared.drawn.LaneInk.{LaneInk}
use Rattle.mus_drawn.specs.declared.drawn.DrawnEvent.{DrawnEvent}
use Rattle.mus_drawn.specs.declared.drawn.DrawnMeasure.{DrawnMeasure}
use Rattle.mus_drawn.specs.declared.drawn.DrawnVoice.{DrawnVoice}
use Rattle.mus_drawn.specs.Drawn.{drawn_voice}
use Rattle.mus_time.specs.Columns.{has_old}
use Rattle.mus_time.proofs.Called.{called_same, keys_placed}
use Rattle.mus_slots.specs.Staff.{slots_at}
use Rattle.mus_slots.specs.Voice.{head_slots, range_slots, slot_if}
use Rattle.mus_slots.proofs.ByKey.{above_differs, at_after}
use Rattle.mus_slots.proofs.Marks.{all_weaker}
use Rattle.mus_slots.proofs.Ranges.{BeginBare, StartsBare, columns_bare, voice_bare}
use Rattle.mus_marks.specs.Events.{changes_nothing}
use Rattle.mus_marks.specs.System.{drawn_staves, is_drawn_lower}
use Rattle.mus_marks.proofs.Groups.{grouped_all}
use Rattle.mus_marks.proofs.Inside.{head_inside}
use Rattle.mus_marks.proofs.Placed.{IsReady, all_ready}
use Rattle.lay_reaches.specs.declared.column.Column.{Column}
use Rattle.lay_columns.specs.Measures.{AreFurther, AreMeasureColumns, begins_plain, first_plain, is_plain, keys_in}
use Rattle.lay_columns.proofs.HeadKeys.{HasHead, own_keys}
use Rattle.lay_columns.proofs.Keyed.{SameAt, both_pass, columns_same, measure_keyed}

-- ---- a voice that begins a measure without a change
no_mark : (signed : Bool) (ch : Changes) → changes_nothing ch ≡ true → change_has_mark signed ch ≡ false
no_mark signed ch h = by ch.clef ch.key ch.meter h
  where
    by : (clef : Option Clef) (key : Option Key) (meter : Option Meter)
        → (is_none clef && is_none key && is_none meter) ≡ true
        → (is_some clef || key_has_mark signed key || meter_has_mark meter) ≡ false
    by None None None h = refl
    by clef key meter h = absurd (false_not_true h)

starts_bare : (es : List DrawnEvent) → first_plain es ≡ true → StartsBare es
starts_bare [] h = tt
starts_bare (e ∷ es) h = no_mark (has_old e) e.flat.event.changes h

begin_bare : (m n : ℕ) (ds : List DrawnMeasure)
    → n ≡ 1 → is_plain (slice_get ds m) ≡ true → BeginBare (take n (drop m ds))
begin_bare m n ds one h = subst (λ k. BeginBare (take k (drop m ds))) (sym one) (by m ds h)
  where
    by : (m : ℕ) (ds : List DrawnMeasure) → is_plain (slice_get ds m) ≡ true → BeginBare (take 1 (drop m ds))
    by zero [] h = tt
    by (suc m) [] h = tt
    by zero (d ∷ ds) h = starts_bare d.events h
    by (suc m) (d ∷ ds) h = by m ds h

abbrev IsPlain : ℕ → DrawnVoice → Type 0
IsPlain m v = BeginBare (slice_range v.measures m (m + 1))

voices_plain : (m : ℕ) (vs : List DrawnVoice)
    → list_all (begins_plain m) vs ≡ true → AllByRecursion (IsPlain m) vs
voices_plain m vs plain =
    all_weaker (λ v. begins_plain m v ≡ true) (IsPlain m)
    (λ v h. begin_bare m (m + 1 - m) v.measures (omega arith) h) vs
    (recursion_from_All (λ v. begins_plain m v ≡ true) vs (AllPass-from_list_all (begins_plain m) vs plain))

-- ---- its slots after the head
head_below : (k : ColumnKey) (m : ℕ) (ds : List DrawnMeasure)
    → is_below (head_key m) k ≡ true → AllByRecursion (λ s. same_key s.key k ≡ false) (head_slots m ds)
head_below k m [] below = tt
head_below k m (d ∷ ds) below = by (not (is_lower d.seat)) _
  where
    by : (b : Bool) (drawn : List LaneInk)
        → AllByRecursion (λ s. same_key s.key k ≡ false) (slot_if b (head_key m) drawn)
    by true drawn = (above_differs (head_key m) k below, tt)
    by false drawn = tt

after_head : (lengths : List ℕ) (m : ℕ) (later : 1 ≤ m) (k : ColumnKey)
    → is_below (head_key m) k ≡ true
    → (v : DrawnVoice) → IsPlain m v
    → SameAt (range_slots true lengths m (m + 1)) (range_slots false lengths m (m + 1)) k v
after_head lengths m later k below v bare first =
    let head = head_slots m (slice_range v.measures m (m + 1)) in
    ap (slots_at k) (voice_bare first lengths m (m + 1) v later bare)
    ∙ at_after (λ s. s.key) k head (range_slots false lengths m (m + 1) first v)
    (head_below k m (slice_range v.measures m (m + 1)) below)

all_below : (k : ColumnKey) (ks : List ColumnKey) → BelowAll k ks → AllByRecursion (λ l. is_below k l ≡ true) ks
all_below k [] below = tt
all_below k (l ∷ ks) below = (below.0, all_below k ks below.1)

-- ---- the columns after the head
some_voice : (f : Voice → List ColumnKey) (k : ColumnKey) (vs : List Voice) → Contains (flat_map f vs) k → 1 ≤ length vs
some_voice f k [] (i, inside, is) = absurd (omega (arith, inside))
some_voice f k (v ∷ vs) has = omega arith

of_after : (s : Score) (t : Timeline) (m : ℕ) (verses : List ℕ) (column : Column) (columns : List Column)
    → IsGoodScore s → t ≡ timeline_of s → 1 ≤ m → m < s.measures
    → list_all (begins_plain m) (map drawn_voice s.voices) ≡ true
    → AreMeasureColumns true s t m verses (column ∷ columns)
    → AreMeasureColumns false s t m verses columns
of_after s t m verses column columns good timed later within plain are =
    let lengths = t.lengths in
    let voices = map drawn_voice s.voices in
    let own = keys_in columns in
    let keys = column.key ∷ own in
    let bare = voices_plain m voices plain in
    let placed = keys_placed s t m (m + 1) keys timed good (omega arith) (omega (arith, within)) are.keys in
    let head = head_inside s lengths m (m + 1) keys good
    (some_voice (voice_keys lengths m (m + 1)) column.key s.voices (are.keys.only column.key (0, omega arith, refl)))
    are.keys in
    let ready = all_ready s t m (m + 1) keys timed good (omega arith) (omega (arith, within)) are.keys in
    let headed = all_weaker (λ v. IsReady keys lengths m (m + 1) v × IsPlain m v) (HasHead lengths m)
    (λ v is. record {
      parts = columns_bare lengths m (m + 1) v is.0.seated later is.0.some is.1;
      rise = is.0.slotted.rise;
    }) voices (both_pass (IsReady keys lengths m (m + 1)) (IsPlain m) voices ready bare) in
    let called = own_keys lengths m voices column.key own headed (placed 0 column.key (omega arith)).from head
    (subst (AreKeys keys) (called_same true s lengths m) are.keys) in
    let further = subst (AreKeys own) (sym (called_same false s lengths m)) called.1 in
    record {
      keys = further;
      value =
          ap (drop 1) (are.value ∙ measure_keyed true s lengths m verses keys good within are.keys)
          ∙ columns_same (range_slots true lengths m (m + 1)) (range_slots false lengths m (m + 1))
          (λ k. is_below (head_key m) k ≡ true) (IsPlain m) (after_head lengths m later) own (drawn_staves s) lengths
          verses (all_below (head_key m) own (subst (λ k. BelowAll k own) called.0 are.keys.rise.0))
          (grouped_all is_drawn_lower (IsPlain m) voices bare)
          ∙ sym (measure_keyed false s lengths m verses own good within further);
    }

min_one : (m : ℕ) → 1 ≤ m → 1 ≡ min m 1
min_one m h = grind (arith, h)

apart : (m : ℕ) → 1 ≤ m → ((m - 1) == m) ≡ false
apart m h = grind (arith, nat_tests, h)

-- without voices there is no column
none_after : (s : Score) (t : Timeline) (m : ℕ) (verses : List ℕ) (vs : List Voice)
    → s.voices ≡ vs → IsGoodScore s → AreMeasureColumns true s t m verses [] → AreMeasureColumns false s t m verses []
none_after s t m verses [] none good are = record {
  keys = subst (λ vs. AreKeys [] (flat_map (measure_keys t.lengths m) vs)) (sym none)
      (record { rise = tt; all = λ k h. h; only = λ k h. h });
  value = refl;
}
none_after s t m verses (v ∷ vs) some good are =
    let count = ap (λ vs. length vs) some in
    absurd (omega (arith, (head_inside s t.lengths m (m + 1) [] good (omega (arith, count)) are.keys).1))

pub plain_further : (s : Score) (t : Timeline) (m : ℕ) (verses : List ℕ)
    → IsGoodScore s → t ≡ timeline_of s → 1 ≤ m → m < s.measures
    → list_all (begins_plain m) (map drawn_voice s.voices) ≡ true
    → AreFurther s t m verses None
plain_further s t m verses good timed some within plain begun are =
    let one : 1 ≡ min m 1 = min_one m some in
    subst (λ n. AreMeasureColumns ((m - 1) == m) s t m verses (drop n begun)) one
    (subst (λ b. AreMeasureColumns b s t m verses (drop 1 begun)) (sym (apart m some)) (by begun are))
  where
    by : (begun : List Column)
        → AreMeasureColumns true s t m verses begun → AreMeasureColumns false s t m verses (drop 1 begun)
    by [] are = none_after s t m verses s.voices refl good are
    by (column ∷ columns) are = of_after s t m verses column columns good timed some within plain are
