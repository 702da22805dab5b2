-- A system has fewer columns than there are ranks.
use Rattle.mus_score.specs.Limits.{measure_limit}
use Rattle.std.proofs.Common.{◌≡◌, ◌∙◌, ℕ, zero, suc, ◌+◌, ◌-◌, ◌*◌, ◌≤◌, ◌<◌, Bool, true, false, not, ◌&&◌, ◌==◌}
use Rattle.std.proofs.Common.{if◌then◌else◌, List, [], ◌∷◌, ◌++◌, length, length-append, drop, refl, sym, ap, subst}
use Rattle.std.proofs.Common.{arith}
use Rattle.std.proofs.lemmas.List.{length-take}
use Rattle.std.proofs.lemmas.List.Sums.{count_by-le-length, length-filter, sum_by-cons}
use Rattle.std.proofs.lemmas.List.Elements.{recursion_from_All}
use Rattle.std.specs.List.{AllByRecursion, Contains, flat_map, slice_index, slice_index_or, slice_range, sum_by}
use Rattle.mus_score.specs.declared.score.Event.{Event}
use Rattle.mus_score.specs.declared.score.Flat.{Flat}
use Rattle.mus_score.specs.declared.score.Measure.{Measure}
use Rattle.mus_score.specs.declared.score.Score.{Score}
use Rattle.mus_score.specs.declared.score.Voice.{Voice}
use Rattle.mus_score.specs.Good.{IsGoodBody, flat_count, total_ticks}
use Rattle.mus_score.specs.Seats.{is_lower}
use Rattle.mus_score.specs.GoodScore.{IsGoodScore, IsGoodVoice}
use Rattle.mus_score.specs.Times.{flats_of}
use Rattle.mus_score.proofs.Bounds.{flats_few}
use Rattle.mus_onsets.specs.Keys.{all_keys, AreKeys, called_keys, change_has_mark, change_keys, event_keys, events_keys}
use Rattle.mus_onsets.specs.Keys.{first_keys, grace_keys, has_features, is_for_each, key_at, keys_by, measures_keys}
use Rattle.mus_onsets.specs.Keys.{signed_after, signed_at, signed_through, voice_keys, measure_keys, further_keys}
use Rattle.mus_onsets.specs.declared.keys.ColumnKey.{ColumnKey}
use Rattle.mus_onsets.specs.declared.keys.Class.{Class}
use Rattle.mus_onsets.specs.Order.{BelowAll, Rises, is_below}
use Rattle.mus_onsets.proofs.Orders.{not_itself}
use Rattle.mus_onsets.proofs.RankLaws.{false_not_true}
use Rattle.{mus_stems.proofs.RunLaws.{all_drop, all_take}, mus_time.specs.Columns.{keys_called}}

-- a list without the element at one place
abbrev without : List ColumnKey → ℕ → List ColumnKey
without [] i = []
without (c ∷ cs) zero = cs
without (c ∷ cs) (suc i) = c ∷ without cs i

shorter : (cs : List ColumnKey) (i : ℕ) → i < length cs → suc (length (without cs i)) ≡ length cs
shorter [] i h = absurd (omega (arith, h))
shorter (c ∷ cs) zero h = refl
shorter (c ∷ cs) (suc i) h = ap suc (shorter cs i (omega (arith, h)))

-- an element that differs from the one there is still in it
still_in : (cs : List ColumnKey) (i j : ℕ) (k l : ColumnKey)
    → i < length cs → j < length cs → slice_index_or cs i k ≡ k → slice_index_or cs j l ≡ l → (k ≡ l → ⊥)
    → Contains (without cs i) l
still_in [] i j k l a b p q differ = absurd (omega (arith, a))
still_in (c ∷ cs) zero zero k l a b p q differ = absurd (differ (sym p ∙ q))
still_in (c ∷ cs) zero (suc j) k l a b p q differ = (j, omega (arith, b), q)
still_in (c ∷ cs) (suc i) zero k l a b p q differ = (0, omega arith, q)
still_in (c ∷ cs) (suc i) (suc j) k l a b p q differ =
    let more = still_in cs i j k l (omega (arith, a)) (omega (arith, b)) p q differ in
    (suc more.0, omega (arith, more.1), more.2)

not_below_itself : (k : ColumnKey) → is_below k k ≡ true → ⊥
not_below_itself k h = false_not_true (sym (not_itself k) ∙ h)

differs : (k l : ColumnKey) (ls : List ColumnKey) → BelowAll k ls → Contains ls l → k ≡ l → ⊥
differs k l [] below (i, inside, is) same = absurd (omega (arith, inside))
differs k l (m ∷ ls) below (zero, inside, is) same =
    not_below_itself k (subst (λ x. is_below k x ≡ true) (is ∙ sym same) below.0)
differs k l (m ∷ ls) below (suc i, inside, is) same = differs k l ls below.1 (i, omega (arith, inside), is) same

-- rising keys that are all among others are at most as many
no_more : (ks cs : List ColumnKey)
    → Rises ks → ((k : ColumnKey) → Contains ks k → Contains cs k) → length ks ≤ length cs
no_more [] cs rise in_it = omega arith
no_more (k ∷ ks) cs rise in_it =
    let at = in_it k (0, omega arith, refl) in
    let rest = no_more ks (without cs at.0) rise.1 (λ l h.
    let there = in_it l (suc h.0, omega (arith, h.1), h.2) in
    still_in cs at.0 there.0 k l at.1 there.1 at.2 there.2 (differs k l ks rise.0 h)) in
    let count = shorter cs at.0 at.1 in omega (arith, rest, count)

-- the keys that are called for
graces_few : (m tick i : ℕ) (gs : List Event) → length (grace_keys m tick i gs) ≡ length gs
graces_few m tick i [] = refl
graces_few m tick i (g ∷ gs) = ap suc (graces_few m tick (i + 1) gs)

one_at_most : (b : Bool) (k : ColumnKey) → length (if b then k ∷ [] else []) ≤ 1
one_at_most true k = omega arith
one_at_most false k = omega arith

event_few : (m tick : ℕ) (in_head signed : Bool) (f : Flat)
    → length (event_keys m tick in_head signed f) ≤ 2 * flat_count f
event_few m tick in_head signed f =
    let changes = change_keys m tick in_head signed f.event.changes in
    let graces = grace_keys m tick 0 f.graces in
    let a = length-append (changes ++ graces) (key_at m tick Class.Note 0 ∷ []) in
    let b = length-append changes graces in
    let c : length changes ≤ 1 =
    one_at_most (not in_head && change_has_mark signed f.event.changes) (key_at m tick Class.Change 0) in
    let d = graces_few m tick 0 f.graces in omega (arith, a, b, c, d)

events_few : (m : ℕ) (in_head signed : Bool) (before fs : List Flat)
    → length (events_keys m in_head signed before fs) ≤ 2 * sum_by flat_count fs
events_few m in_head signed before [] = omega arith
events_few m in_head signed before (f ∷ fs) =
    let here = event_few m (total_ticks before) in_head signed f in
    let more = events_few m false (signed_after signed f.event.changes.key) (f ∷ before) fs in
    let both = length-append (event_keys m (total_ticks before) in_head signed f)
    (events_keys m false (signed_after signed f.event.changes.key) (f ∷ before) fs) in
    let counts = sum_by-cons flat_count f fs in omega (arith, here, more, both, counts)

measures_few : (lengths : List ℕ) (m : ℕ) (in_head signed : Bool) (xs : List Measure)
    → AllByRecursion (λ x. IsGoodBody x.body) xs
    → length (measures_keys lengths m in_head signed xs) ≤ 100001 * length xs
measures_few lengths m in_head signed [] good = omega arith
measures_few lengths m in_head signed (x ∷ xs) good =
    let fs = flats_of x.body in
    let here = events_few m in_head signed [] fs in
    let few = flats_few x.body good.0 in
    let more = measures_few lengths (m + 1) false (signed_through signed fs) xs good.1 in
    let both = length-append (events_keys m in_head signed [] fs)
    (key_at m (slice_index lengths m) Class.Bar 0
    ∷ measures_keys lengths (m + 1) false (signed_through signed fs) xs) in
    omega (arith, here, few, more, both)

-- a voice has no more keys on its staff
kept_few : (lower : Bool) (ks : List ColumnKey) → length (keys_by lower ks) ≤ length ks
kept_few true ks = let count = length-filter is_for_each ks in omega (arith, count, count_by-le-length is_for_each ks)
kept_few false ks = omega arith

all_few : (lengths : List ℕ) (a b : ℕ) (v : Voice)
    → b ≤ measure_limit → IsGoodVoice v → length (all_keys lengths a b v) ≤ 200002002
all_few lengths a b v within good =
    let xs = slice_range v.measures a b in
    let bodies = all_take (λ x. IsGoodBody x.body) (b - a) (drop a v.measures)
    (all_drop (λ x. IsGoodBody x.body) a v.measures
    (recursion_from_All (λ m. IsGoodBody m.body) v.measures good.bodies)) in
    let more = measures_few lengths a true (signed_at a v) xs bodies in
    let count = length-take (b - a) (drop a v.measures) in
    let first : length (first_keys a v.first) ≤ 1 =
    one_at_most ((a == 0) && has_features v.first) (key_at 0 0 Class.First 0) in
    let both = length-append (first_keys a v.first) (measures_keys lengths a true (signed_at a v) xs) in
    omega (arith, more, count, first, both, within)

voice_few : (lengths : List ℕ) (a b : ℕ) (v : Voice)
    → b ≤ measure_limit → IsGoodVoice v → length (voice_keys lengths a b v) ≤ 200002002
voice_few lengths a b v within good =
    omega (arith, kept_few (is_lower v.seat) (all_keys lengths a b v), all_few lengths a b v within good)

voices_few : (lengths : List ℕ) (a b : ℕ) (vs : List Voice)
    → b ≤ measure_limit → AllByRecursion IsGoodVoice vs
    → length (flat_map (voice_keys lengths a b) vs) ≤ 200002002 * length vs
voices_few lengths a b [] within good = omega arith
voices_few lengths a b (v ∷ vs) within good =
    let here = voice_few lengths a b v within good.0 in let more = voices_few lengths a b vs within good.1 in
    let both = length-append (voice_keys lengths a b v) (flat_map (voice_keys lengths a b) vs) in
    omega (arith, here, more, both)

measure_few : (lengths : List ℕ) (m : ℕ) (v : Voice) → IsGoodVoice v → length (measure_keys lengths m v) ≤ 100001
measure_few lengths m v good =
    let xs = slice_range v.measures m (m + 1) in
    let bodies = all_take (λ x. IsGoodBody x.body) (m + 1 - m) (drop m v.measures)
    (all_drop (λ x. IsGoodBody x.body) m v.measures
    (recursion_from_All (λ m. IsGoodBody m.body) v.measures good.bodies)) in
    let more = measures_few lengths m false (signed_at m v) xs bodies in
    let count : length xs ≤ 1 = omega (arith, length-take (m + 1 - m) (drop m v.measures)) in
    omega (arith, more, count, kept_few (is_lower v.seat) (measures_keys lengths m false (signed_at m v) xs))

further_few : (lengths : List ℕ) (m : ℕ) (vs : List Voice)
    → AllByRecursion IsGoodVoice vs → length (flat_map (measure_keys lengths m) vs) ≤ 100001 * length vs
further_few lengths m [] good = omega arith
further_few lengths m (v ∷ vs) good =
    let here = measure_few lengths m v good.0 in
    let more = further_few lengths m vs good.1 in
    let both = length-append (measure_keys lengths m v) (flat_map (measure_keys lengths m) vs) in
    omega (arith, here, more, both)

few_further : (s : Score) (lengths : List ℕ) (m : ℕ) (keys : List ColumnKey)
    → IsGoodScore s → AreKeys keys (further_keys s lengths m) → length keys < 4294967296
few_further s lengths m keys good are =
    let called = further_few lengths m s.voices (recursion_from_All IsGoodVoice s.voices good.voices) in
    let fewer = no_more keys (further_keys s lengths m) are.rise are.only in
    omega (arith, called, fewer, good.few_voices)

pub few_keys : (s : Score) (lengths : List ℕ) (a b : ℕ) (keys : List ColumnKey)
    → IsGoodScore s → b ≤ s.measures → AreKeys keys (called_keys s lengths a b) → length keys < 4294967296
few_keys s lengths a b keys good within are =
    let called = voices_few lengths a b s.voices (omega (arith, within, good.few_measures))
    (recursion_from_All IsGoodVoice s.voices good.voices) in
    let fewer = no_more keys (called_keys s lengths a b) are.rise are.only in
    omega (arith, called, fewer, good.few_voices)

pub few_called : (begins : Bool) (s : Score) (lengths : List ℕ) (m : ℕ) (keys : List ColumnKey)
    → IsGoodScore s → m < s.measures → AreKeys keys (keys_called begins s lengths m) → length keys < 4294967296
few_called true s lengths m keys good within are = few_keys s lengths m (m + 1) keys good (omega (arith, within)) are
few_called false s lengths m keys good within are = few_further s lengths m keys good are
