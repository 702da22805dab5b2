-- The keys that voices call for are in the system's measures, and none is after its measure's end.
use Rattle.std.proofs.Common.{◌≡◌, ℕ, zero, zero-add, suc, ◌+◌, ◌-◌, ◌≤◌, ◌<◌, List, [], ◌∷◌, ◌++◌, length, length-take}
use Rattle.std.proofs.Common.{get_or, drop, take, filter, refl, sym, subst, Bool, true, false, ◌&&◌, ◌==◌, not}
use Rattle.std.proofs.Common.{if◌then◌else◌, arith}
use Rattle.std.proofs.lemmas.List.Sums.{sum_by-cons}
use Rattle.std.proofs.lemmas.List.Elements.{All-contains, All-from_recursion, Contains-get_or, recursion_from_All}
use Rattle.std.proofs.lemmas.List.FromFn.{length-map-range_with_len, get_or-map-range_with_len}
use Rattle.std.proofs.lemmas.Bool.Decides.{nat_tests}
use Rattle.std.specs.List.{All, AllByRecursion, flat_map, slice_get, slice_index, slice_range}
use Rattle.mus_score.specs.declared.score.Event.{Event}
use Rattle.mus_score.specs.declared.score.Flat.{Flat}
use Rattle.mus_score.specs.declared.score.Measure.{Measure}
use Rattle.mus_score.specs.declared.score.Score.{Score}
use Rattle.mus_score.specs.declared.score.Voice.{Voice}
use Rattle.mus_score.specs.Good.{total_ticks}
use Rattle.mus_score.specs.GoodScore.{IsGoodScore}
use Rattle.mus_score.specs.Seats.{is_lower}
use Rattle.mus_score.specs.Times.{flats_of}
use Rattle.mus_units.specs.declared.note.Bar.{Bar}
use Rattle.mus_onsets.specs.Keys.{key_at, change_keys, change_has_mark, grace_keys, event_keys, events_keys}
use Rattle.mus_onsets.specs.Keys.{signed_after, signed_through, measures_keys, first_keys, has_features, signed_at}
use Rattle.mus_onsets.specs.Keys.{voice_keys, all_keys, keys_by, is_for_each, called_keys, measure_keys, further_keys}
use Rattle.mus_onsets.specs.Keys.{AreKeys, IsInSystem}
use Rattle.mus_onsets.specs.declared.keys.ColumnKey.{ColumnKey}
use Rattle.mus_onsets.specs.declared.keys.Class.{Class}
use Rattle.mus_onsets.specs.Onsets.{length_in_voice, measure_length, ticks_of_some, timeline_of}

pub length_of_lengths : (s : Score) → length (timeline_of s).lengths ≡ s.measures
length_of_lengths s = length-map-range_with_len (measure_length s.voices) 0 s.measures

pub length_is : (s : Score) (k : ℕ) → k < s.measures → slice_index (timeline_of s).lengths k ≡ measure_length s.voices k
length_is s k h = get_or-map-range_with_len (measure_length s.voices) 0 s.measures k k 0 h (omega arith)

-- all elements of a list, by recursion
all_append : (P : ColumnKey → Type 0) (xs ys : List ColumnKey)
    → AllByRecursion P xs → AllByRecursion P ys → AllByRecursion P (xs ++ ys)
all_append P [] ys a b = b
all_append P (x ∷ xs) ys a b = (a.0, all_append P xs ys a.1 b)

-- a place in a measure, up to some tick
pub record UpTo (m high : ℕ) (k : ColumnKey) : Type 0 where
  pub measure : k.measure ≡ m
  pub tick : k.tick ≤ high

change_up_to : (m tick high : ℕ) (b : Bool)
    → tick ≤ high → AllByRecursion (UpTo m high) (if b then key_at m tick Class.Change 0 ∷ [] else [])
change_up_to m tick high true h = (record { measure = refl; tick = h }, tt)
change_up_to m tick high false h = tt

graces_up_to : (m tick high i : ℕ) (gs : List Event)
    → tick ≤ high → AllByRecursion (UpTo m high) (grace_keys m tick i gs)
graces_up_to m tick high i [] h = tt
graces_up_to m tick high i (g ∷ gs) h = (record { measure = refl; tick = h }, graces_up_to m tick high (i + 1) gs h)

event_up_to : (m tick high : ℕ) (in_head signed : Bool) (f : Flat)
    → tick ≤ high → AllByRecursion (UpTo m high) (event_keys m tick in_head signed f)
event_up_to m tick high in_head signed f h =
    all_append (UpTo m high) (change_keys m tick in_head signed f.event.changes ++ grace_keys m tick 0 f.graces)
    (key_at m tick Class.Note 0 ∷ [])
    (all_append (UpTo m high) (change_keys m tick in_head signed f.event.changes) (grace_keys m tick 0 f.graces)
    (change_up_to m tick high (not in_head && change_has_mark signed f.event.changes) h)
    (graces_up_to m tick high 0 f.graces h))
    (record { measure = refl; tick = h }, tt)

events_up_to : (m high : ℕ) (in_head signed : Bool) (before fs : List Flat)
    → total_ticks before + total_ticks fs ≤ high → AllByRecursion (UpTo m high) (events_keys m in_head signed before fs)
events_up_to m high in_head signed before [] h = tt
events_up_to m high in_head signed before (f ∷ fs) h =
    let e = sum_by-cons (λ x. x.duration) f fs in let d = sum_by-cons (λ x. x.duration) f before in
    all_append (UpTo m high) (event_keys m (total_ticks before) in_head signed f)
    (events_keys m false (signed_after signed f.event.changes.key) (f ∷ before) fs)
    (event_up_to m (total_ticks before) high in_head signed f (omega arith))
    (events_up_to m high false (signed_after signed f.event.changes.key) (f ∷ before) fs (omega arith))

-- Measures.
all_weaker : (P Q : ColumnKey → Type 0)
    → ((k : ColumnKey) → P k → Q k) → (ks : List ColumnKey) → AllByRecursion P ks → AllByRecursion Q ks
all_weaker P Q f [] a = tt
all_weaker P Q f (k ∷ ks) a = (f k a.0, all_weaker P Q f ks a.1)

in_system : (lengths : List ℕ) (a b m : ℕ)
    → a ≤ m → m < b → (k : ColumnKey) → UpTo m (slice_index lengths m) k → IsInSystem lengths a b k
in_system lengths a b m from to k u = record {
  from = subst (λ z. a ≤ z) (sym u.measure) from;
  to = subst (λ z. z < b) (sym u.measure) to;
  within = subst (λ z. k.tick ≤ slice_index lengths z) (sym u.measure) u.tick;
}

-- measures from number m on are within their lengths
abbrev MeasuresFit : List ℕ → ℕ → List Measure → Type 0
MeasuresFit lengths m [] = Unit {0}
MeasuresFit lengths m (x ∷ xs) =
    (total_ticks (flats_of x.body) ≤ slice_index lengths m) × MeasuresFit lengths (m + 1) xs

measures_in : (lengths : List ℕ) (a b m : ℕ) (in_head signed : Bool) (xs : List Measure)
    → a ≤ m → m + length xs ≤ b → MeasuresFit lengths m xs
    → AllByRecursion (IsInSystem lengths a b) (measures_keys lengths m in_head signed xs)
measures_in lengths a b m in_head signed [] from to fit = tt
measures_in lengths a b m in_head signed (x ∷ xs) from to fit =
    let fs = flats_of x.body in
    let high : total_ticks [] + total_ticks fs ≤ slice_index lengths m = omega (arith, fit.0) in
    let before : m < b = omega arith in
    all_append (IsInSystem lengths a b) (events_keys m in_head signed [] fs)
    (key_at m (slice_index lengths m) Class.Bar 0 ∷ measures_keys lengths (m + 1) false (signed_through signed fs) xs)
    (all_weaker (UpTo m (slice_index lengths m)) (IsInSystem lengths a b) (in_system lengths a b m from before)
    (events_keys m in_head signed [] fs) (events_up_to m (slice_index lengths m) in_head signed [] fs high)) (
      in_system lengths a b m from before (key_at m (slice_index lengths m) Class.Bar 0)
          (record { measure = refl; tick = omega arith }),
      measures_in lengths a b (m + 1) false (signed_through signed fs) xs (omega arith) (omega arith) fit.1,
    )

fit_from : (lengths : List ℕ) (m : ℕ) (xs : List Measure)
    → ((i : ℕ) → i < length xs → ticks_of_some (slice_get xs i) ≤ slice_index lengths (m + i))
    → MeasuresFit lengths m xs
fit_from lengths m [] h = tt
fit_from lengths m (x ∷ xs) h = (
  subst (λ z. total_ticks (flats_of x.body) ≤ slice_index lengths z) (omega arith) (h 0 (omega arith)),
  fit_from lengths (m + 1) xs (λ i k.
      subst (λ z. ticks_of_some (slice_get xs i) ≤ slice_index lengths z) (omega arith) (h (suc i) (omega arith))),
)

fit_take : (lengths : List ℕ) (m n : ℕ) (xs : List Measure)
    → MeasuresFit lengths m xs → MeasuresFit lengths m (take n xs)
fit_take lengths m zero xs h = tt
fit_take lengths m (suc n) [] h = tt
fit_take lengths m (suc n) (x ∷ xs) h = (h.0, fit_take lengths (m + 1) n xs h.1)

fit_drop : (lengths : List ℕ) (m a : ℕ) (xs : List Measure)
    → MeasuresFit lengths m xs → MeasuresFit lengths (m + a) (drop a xs)
fit_drop lengths m zero xs h = subst (λ z. MeasuresFit lengths z xs) (omega arith) h
fit_drop lengths m (suc a) [] h = tt
fit_drop lengths m (suc a) (x ∷ xs) h =
    subst (λ z. MeasuresFit lengths z (drop a xs)) (omega arith) (fit_drop lengths (m + 1) a xs h.1)

-- Voices.
first_if : (lengths : List ℕ) (a b : ℕ) (c : Bool)
    → (c ≡ true → a ≡ 0) → a < b
    → AllByRecursion (IsInSystem lengths a b) (if c then key_at 0 0 Class.First 0 ∷ [] else [])
first_if lengths a b true z h =
    let e : a ≡ 0 = z refl in (record { from = omega arith; to = omega arith; within = omega arith }, tt)
first_if lengths a b false z h = tt

first_in : (lengths : List ℕ) (a b : ℕ) (bar : Bar) → a < b → AllByRecursion (IsInSystem lengths a b) (first_keys a bar)
first_in lengths a b bar h = first_if lengths a b ((a == 0) && has_features bar) (λ t. grind (arith, nat_tests)) h

voice_fits : (lengths : List ℕ) (m : ℕ) (v : Voice)
    → ((k : ℕ) → k < length v.measures → length_in_voice k v ≤ slice_index lengths k)
    → MeasuresFit lengths m (drop m v.measures)
voice_fits lengths m v fits =
    subst (λ z. MeasuresFit lengths z (drop m v.measures)) (zero-add m)
    (fit_drop lengths 0 m v.measures
    (fit_from lengths 0 v.measures
    (λ i k. subst (λ z. length_in_voice i v ≤ slice_index lengths z) (omega arith) (fits i k))))

-- what holds of all keys of a voice holds of those that it has on its staff
kept_one : (P : ColumnKey → Type 0) (c : Bool) (k : ColumnKey) (ks : List ColumnKey)
    → P k → AllByRecursion P ks → AllByRecursion P (if c then k ∷ ks else ks)
kept_one P true k ks h all = (h, all)
kept_one P false k ks h all = all

kept_all : (P : ColumnKey → Type 0) (lower : Bool) (ks : List ColumnKey)
    → AllByRecursion P ks → AllByRecursion P (keys_by lower ks)
kept_all P false ks h = h
kept_all P true [] h = tt
kept_all P true (k ∷ ks) h = kept_one P (is_for_each k) k (filter is_for_each ks) h.0 (kept_all P true ks h.1)

voice_in : (lengths : List ℕ) (a b : ℕ) (v : Voice)
    → a < b → b ≤ length v.measures
    → ((k : ℕ) → k < length v.measures → length_in_voice k v ≤ slice_index lengths k)
    → AllByRecursion (IsInSystem lengths a b) (voice_keys lengths a b v)
voice_in lengths a b v order within fits =
    let some = slice_range v.measures a b in
    let count : length some ≤ b - a = omega (arith, length-take (b - a) (drop a v.measures)) in
    kept_all (IsInSystem lengths a b) (is_lower v.seat) (all_keys lengths a b v) (
      record { from = omega arith; to = order; within = omega arith },
      all_append (IsInSystem lengths a b) (first_keys a v.first) (measures_keys lengths a true (signed_at a v) some)
          (first_in lengths a b v.first order)
          (measures_in lengths a b a true (signed_at a v) some (omega arith) (omega arith)
          (fit_take lengths a (b - a) (drop a v.measures) (voice_fits lengths a v fits))),
    )

called_in : (lengths : List ℕ) (a b n : ℕ) (vs : List Voice)
    → a < b → b ≤ n → AllByRecursion (λ v. length v.measures ≡ n) vs
    → ((k : ℕ) → k < n → measure_length vs k ≤ slice_index lengths k)
    → AllByRecursion (IsInSystem lengths a b) (flat_map (voice_keys lengths a b) vs)
called_in lengths a b n [] order within same fits = tt
called_in lengths a b n (v ∷ vs) order within same fits =
    all_append (IsInSystem lengths a b) (voice_keys lengths a b v) (flat_map (voice_keys lengths a b) vs)
    (voice_in lengths a b v order (omega (arith, same.0)) (λ k h. omega (arith, fits k (omega (arith, same.0)))))
    (called_in lengths a b n vs order within same.1 (λ k h. omega (arith, fits k h)))

-- The rising keys are where the keys that are called for are.
pub places_of : (s : Score) (a b : ℕ) (keys : List ColumnKey)
    → IsGoodScore s → a < b → b ≤ s.measures → AreKeys keys (called_keys s (timeline_of s).lengths a b)
    → All (IsInSystem (timeline_of s).lengths a b) keys
places_of s a b keys good order within are =
    let lengths = (timeline_of s).lengths in
    let P : ColumnKey → Type 0 = IsInSystem lengths a b in
    let same = recursion_from_All (λ v. length v.measures ≡ s.measures) s.voices good.measures in
    let called = All-from_recursion P (called_keys s lengths a b)
    (called_in lengths a b s.measures s.voices order within same (λ k h. omega (arith, length_is s k h))) in
    λ k d h.
    All-contains P (called_keys s lengths a b) (get_or keys k d) called
    (are.only (get_or keys k d) (Contains-get_or keys k d h))

-- Measure m of a system that begins before it.
further_in : (lengths : List ℕ) (m n : ℕ) (vs : List Voice)
    → m < n → AllByRecursion (λ v. length v.measures ≡ n) vs
    → ((k : ℕ) → k < n → measure_length vs k ≤ slice_index lengths k)
    → AllByRecursion (IsInSystem lengths m (m + 1)) (flat_map (measure_keys lengths m) vs)
further_in lengths m n [] order same fits = tt
further_in lengths m n (v ∷ vs) order same fits =
    let count : length (slice_range v.measures m (m + 1)) ≤ 1 =
    omega (arith, length-take (m + 1 - m) (drop m v.measures)) in
    all_append (IsInSystem lengths m (m + 1)) (measure_keys lengths m v) (flat_map (measure_keys lengths m) vs)
    (kept_all (IsInSystem lengths m (m + 1)) (is_lower v.seat)
    (measures_keys lengths m false (signed_at m v) (slice_range v.measures m (m + 1)))
    (measures_in lengths m (m + 1) m false (signed_at m v) (slice_range v.measures m (m + 1)) (omega arith)
    (omega arith)
    (fit_take lengths m (m + 1 - m) (drop m v.measures)
    (voice_fits lengths m v (λ k h. omega (arith, fits k (omega (arith, same.0))))))))
    (further_in lengths m n vs order same.1 (λ k h. omega (arith, fits k h)))

pub further_places : (s : Score) (m : ℕ) (keys : List ColumnKey)
    → IsGoodScore s → m < s.measures → AreKeys keys (further_keys s (timeline_of s).lengths m)
    → All (IsInSystem (timeline_of s).lengths m (m + 1)) keys
further_places s m keys good within are =
    let lengths = (timeline_of s).lengths in
    let P : ColumnKey → Type 0 = IsInSystem lengths m (m + 1) in
    let same = recursion_from_All (λ v. length v.measures ≡ s.measures) s.voices good.measures in
    let called = All-from_recursion P (further_keys s lengths m)
    (further_in lengths m s.measures s.voices within same (λ k h. omega (arith, length_is s k h))) in
    λ k d h.
    All-contains P (further_keys s lengths m) (get_or keys k d) called
    (are.only (get_or keys k d) (Contains-get_or keys k d h))
