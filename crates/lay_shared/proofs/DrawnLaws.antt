-- The drawn score is good.
use Rattle.std.proofs.Common.{◌≡◌, ◌≢◌, refl, sym, ap, ◌∙◌, subst, ℕ, zero, suc, ◌+◌, ◌*◌, ◌<◌, ◌≤◌, List, [], ◌∷◌}
use Rattle.std.proofs.Common.{◌++◌, Bool, true, false, length, map, arith, inl, inr}
use Rattle.std.proofs.lemmas.Bool.{cases_lt}
use Rattle.std.proofs.lemmas.List.{map-append}
use Rattle.std.proofs.lemmas.List.Sums.{sum_by-append, sum_by-cons}
use Rattle.std.proofs.lemmas.List.Elements.{All-from_recursion}
use Rattle.std.proofs.lemmas.Option.{get_or_from_slice_get, slice_get_cases, slice_get_within}
use Rattle.std.specs.Prelude.{All, AllPairs, Option, Some, None, flat_map, slice_get, sum_by}
use Rattle.std.specs.List.{AllByRecursion}
use Rattle.std.specs.Option.{option_to_list}
use Rattle.mus_score.specs.declared.score.Score.{Score}
use Rattle.mus_score.specs.declared.score.Voice.{Voice}
use Rattle.mus_score.specs.Seats.{is_lower, wide_gap}
use Rattle.mus_score.specs.Walks.{Distinct}
use Rattle.mus_score.specs.GoodScore.{IsGoodScore, IsGoodVoice, IsLed, voice_weight}
use Rattle.mus_score.proofs.Scores.{distinct_pairs}
use Rattle.lay_shared.specs.declared.drawing.SeatedVoice.{SeatedVoice}
use Rattle.lay_shared.specs.declared.plan.Plan.{Plan}
use Rattle.lay_shared.specs.declared.plan.PlannedStaff.{PlannedStaff}
use Rattle.lay_shared.specs.Drawn.{seated_voice, drawn_of, staff_gap, leading, lower, seated, sit, sits_of, staff_sits}
use Rattle.lay_shared.specs.Plans.{NamesEachOnce, IsPlanFor, planned_voices}

-- ---- the indices of voices
lower_places : (leads : Bool) (vs : List ℕ) → map (λ (at : SeatedVoice). at.place) (map (lower leads) vs) ≡ vs
lower_places leads [] = refl
lower_places leads (v ∷ vs) = ap (λ s. v ∷ s) (lower_places leads vs)

staff_places : (leads : Bool) (vs : List ℕ) → map (λ (at : SeatedVoice). at.place) (staff_sits leads vs) ≡ vs
staff_places leads [] = refl
staff_places leads (v ∷ vs) = ap (λ s. v ∷ s) (lower_places leads vs)

places : (staves : List PlannedStaff) → map (λ (at : SeatedVoice). at.place) (sits_of staves) ≡ planned_voices staves
places [] = refl
places (staff ∷ staves) =
    map-append (λ (at : SeatedVoice). at.place) (staff_sits staff.leads staff.voices) (sits_of staves)
    ∙ ap (λ s. s ++ map (λ (at : SeatedVoice). at.place) (sits_of staves)) (staff_places staff.leads staff.voices)
    ∙ ap (λ s. staff.voices ++ s) (places staves)

gap_near : (leads : Bool) → staff_gap leads ≤ wide_gap
gap_near true = omega arith
gap_near false = omega arith

-- ---- each voice
at_place : {X : Type 0} (P : X → Type 0) (xs : List X) (k : ℕ) (x : X) → All P xs → slice_get xs k ≡ Some x → P x
at_place P xs k x h e = subst P (get_or_from_slice_get xs k x x e) (h k x (slice_get_within xs k x e))

one_drawn : (P Q : Voice → Type 0) (voices rest : List Voice) (at : SeatedVoice) (o : Option Voice)
    → slice_get voices at.place ≡ o → All P voices → ((v : Voice) → P v → Q (seated at v))
    → AllByRecursion Q rest → AllByRecursion Q (map (seated at) (option_to_list o) ++ rest)
one_drawn P Q voices rest at None e h k more = more
one_drawn P Q voices rest at (Some v) e h k more = (k v (at_place P voices at.place v h e), more)

each_drawn : (P Q : Voice → Type 0) (voices : List Voice) (sits : List SeatedVoice)
    → All P voices → ((at : SeatedVoice) (v : Voice) → P v → Q (seated at v))
    → AllByRecursion Q (flat_map (seated_voice voices) sits)
each_drawn P Q voices [] h k = tt
each_drawn P Q voices (at ∷ sits) h k =
    one_drawn P Q voices (flat_map (seated_voice voices) sits) at (slice_get voices at.place) refl h (k at)
    (each_drawn P Q voices sits h k)

seated_good : (at : SeatedVoice) (v : Voice) → IsGoodVoice v → IsGoodVoice (seated at v)
seated_good at v good = record {
  few_measures = good.few_measures;
  few_verses = good.few_verses;
  near = gap_near at.leads;
  few_heads = good.few_heads;
  key = good.key;
  meter = good.meter;
  bodies = good.bodies;
  events = good.events;
  reach = good.reach;
  ids = good.ids;
}

-- ---- no more than there are
abbrev picked : List Voice → List ℕ → List Voice
picked voices ks = flat_map (λ k. option_to_list (slice_get voices k)) ks

one_sum : (f : Voice → ℕ) (at : SeatedVoice) (o : Option Voice) (xs ys : List Voice)
    → ((v : Voice) → f (seated at v) ≡ f v) → sum_by f xs ≡ sum_by f ys
    → sum_by f (map (seated at) (option_to_list o) ++ xs) ≡ sum_by f (option_to_list o ++ ys)
one_sum f at None xs ys same e = e
one_sum f at (Some v) xs ys same e =
    sum_by-cons f (seated at v) xs ∙ ap (λ n. n + sum_by f xs) (same v) ∙ ap (λ n. f v + n) e ∙ sym (sum_by-cons f v ys)

drawn_sum : (f : Voice → ℕ) (voices : List Voice) (sits : List SeatedVoice)
    → ((at : SeatedVoice) (v : Voice) → f (seated at v) ≡ f v)
    → sum_by f (flat_map (seated_voice voices) sits)
    ≡ sum_by f (picked voices (map (λ (at : SeatedVoice). at.place) sits))
drawn_sum f voices [] same = refl
drawn_sum f voices (at ∷ sits) same =
    one_sum f at (slice_get voices at.place) (flat_map (seated_voice voices) sits)
    (picked voices (map (λ (at : SeatedVoice). at.place) sits)) (same at) (drawn_sum f voices sits same)

-- the indices after the first, and how often the first occurs among indices
abbrev further : List ℕ → List ℕ
further [] = []
further (zero ∷ ks) = further ks
further (suc k ∷ ks) = k ∷ further ks

abbrev zeros : List ℕ → ℕ
zeros [] = 0
zeros (zero ∷ ks) = suc (zeros ks)
zeros (suc k ∷ ks) = zeros ks

further_apart : (k : ℕ) (ks : List ℕ) → AllByRecursion (λ j. suc k ≢ j) ks → AllByRecursion (λ j. k ≢ j) (further ks)
further_apart k [] h = tt
further_apart k (zero ∷ ks) h = further_apart k ks h.1
further_apart k (suc j ∷ ks) h = ((λ e. h.0 (ap suc e)), further_apart k ks h.1)

further_once : (ks : List ℕ) → NamesEachOnce ks → NamesEachOnce (further ks)
further_once [] h = tt
further_once (zero ∷ ks) h = further_once ks h.1
further_once (suc k ∷ ks) h = (further_apart k ks h.0, further_once ks h.1)

no_zero : (ks : List ℕ) → AllByRecursion (λ j. zero ≢ j) ks → zeros ks ≡ 0
no_zero [] h = refl
no_zero (zero ∷ ks) h = absurd (h.0 refl)
no_zero (suc k ∷ ks) h = no_zero ks h.1

one_zero : (ks : List ℕ) → NamesEachOnce ks → zeros ks ≤ 1
one_zero [] h = omega arith
one_zero (zero ∷ ks) h = let none = no_zero ks h.0 in omega (arith, none)
one_zero (suc k ∷ ks) h = one_zero ks h.1

picked_sum : (f : Voice → ℕ) (v : Voice) (voices : List Voice) (ks : List ℕ)
    → sum_by f (picked (v ∷ voices) ks) ≡ zeros ks * f v + sum_by f (picked voices (further ks))
picked_sum f v voices [] = let none : 0 ≡ 0 * f v + 0 = omega arith in none
picked_sum f v voices (zero ∷ ks) =
    sum_by-cons f v (picked (v ∷ voices) ks) ∙ ap (λ n. f v + n) (picked_sum f v voices ks) ∙ omega arith
picked_sum f v voices (suc k ∷ ks) =
    let here = sum_by-append f (option_to_list (slice_get voices k)) (picked (v ∷ voices) ks) in
    let there = sum_by-append f (option_to_list (slice_get voices k)) (picked voices (further ks)) in
    let more = picked_sum f v voices ks in omega (arith, here, there, more)

none_picked : (f : Voice → ℕ) (ks : List ℕ) → sum_by f (picked [] ks) ≡ 0
none_picked f [] = refl
none_picked f (k ∷ ks) = none_picked f ks

at_most : (n x : ℕ) → n ≤ 1 → n * x ≤ x
at_most (suc (suc n)) x h = absurd (omega (arith, h))
at_most n x h = omega arith

picked-le : (f : Voice → ℕ) (voices : List Voice) (ks : List ℕ)
    → NamesEachOnce ks → sum_by f (picked voices ks) ≤ sum_by f voices
picked-le f [] ks once = let none = none_picked f ks in omega (arith, none)
picked-le f (v ∷ voices) ks once =
    let cut = picked_sum f v voices ks in
    let few = at_most (zeros ks) (f v) (one_zero ks once) in
    let more = picked-le f voices (further ks) (further_once ks once) in
    let whole = sum_by-cons f v voices in omega (arith, cut, few, more, whole)

drawn-le : (f : Voice → ℕ) (voices : List Voice) (staves : List PlannedStaff)
    → ((at : SeatedVoice) (v : Voice) → f (seated at v) ≡ f v) → NamesEachOnce (planned_voices staves)
    → sum_by f (flat_map (seated_voice voices) (sits_of staves)) ≤ sum_by f voices
drawn-le f voices staves same once =
    let sum = drawn_sum f voices (sits_of staves) same ∙ ap (λ ks. sum_by f (picked voices ks)) (places staves) in
    let few = picked-le f voices (planned_voices staves) once in
    omega (arith, sum, few)

counted : (voices : List Voice) → sum_by (λ v. 1) voices ≡ length voices
counted [] = refl
counted (v ∷ voices) = sum_by-cons (λ v. 1) v voices ∙ ap (λ n. 1 + n) (counted voices) ∙ omega arith

-- ---- ids
ids_apart : (voices : List Voice) (j k : ℕ) (v w : Voice)
    → AllPairs (λ v w. v.id ≢ w.id) voices → j ≢ k → slice_get voices j ≡ Some v → slice_get voices k ≡ Some w
    → v.id ≢ w.id
ids_apart voices j k v w apart unlike e f =
    let here = get_or_from_slice_get voices j v v e in
    let there = get_or_from_slice_get voices k w v f in
    let first = slice_get_within voices j v e in
    let second = slice_get_within voices k w f in
    elim (cases_lt j k) [
      | inl below ↦
          λ same. apart j k v below second (ap (λ (x : Voice). x.id) here ∙ same ∙ sym (ap (λ (x : Voice). x.id) there))
      | inr above ↦
          λ same.
          apart k j v (above_strictly j k above unlike) first
          (ap (λ (x : Voice). x.id) there ∙ sym same ∙ sym (ap (λ (x : Voice). x.id) here))
    ]
  where
    above_strictly : (j k : ℕ) → k ≤ j → j ≢ k → k < j
    above_strictly j k above unlike = omega (arith, above, unlike)

one_apart : (voices : List Voice) (k : ℕ) (v : Voice) (at : SeatedVoice) (rest : List Voice) (o : Option Voice)
    → slice_get voices at.place ≡ o → AllPairs (λ v w. v.id ≢ w.id) voices
    → slice_get voices k ≡ Some v → k ≢ at.place → AllByRecursion (λ w. v.id ≢ w.id) rest
    → AllByRecursion (λ w. v.id ≢ w.id) (map (seated at) (option_to_list o) ++ rest)
one_apart voices k v at rest None f apart e unlike more = more
one_apart voices k v at rest (Some w) f apart e unlike more = (ids_apart voices k at.place v w apart unlike e f, more)

each_apart : (voices : List Voice) (k : ℕ) (v : Voice) (sits : List SeatedVoice)
    → AllPairs (λ v w. v.id ≢ w.id) voices → slice_get voices k ≡ Some v
    → AllByRecursion (λ j. k ≢ j) (map (λ (at : SeatedVoice). at.place) sits)
    → AllByRecursion (λ w. v.id ≢ w.id) (flat_map (seated_voice voices) sits)
each_apart voices k v [] apart e unlike = tt
each_apart voices k v (at ∷ sits) apart e unlike =
    one_apart voices k v at (flat_map (seated_voice voices) sits) (slice_get voices at.place) refl apart e unlike.0
    (each_apart voices k v sits apart e unlike.1)

one_distinct : (voices : List Voice) (at : SeatedVoice) (rest : List Voice) (o : Option Voice)
    → slice_get voices at.place ≡ o
    → ((v : Voice) → slice_get voices at.place ≡ Some v → AllByRecursion (λ w. v.id ≢ w.id) rest)
    → Distinct rest
    → Distinct (map (seated at) (option_to_list o) ++ rest)
one_distinct voices at rest None e unlike more = more
one_distinct voices at rest (Some v) e unlike more = (unlike v e, more)

drawn_distinct : (voices : List Voice) (sits : List SeatedVoice)
    → AllPairs (λ v w. v.id ≢ w.id) voices → NamesEachOnce (map (λ (at : SeatedVoice). at.place) sits)
    → Distinct (flat_map (seated_voice voices) sits)
drawn_distinct voices [] apart once = tt
drawn_distinct voices (at ∷ sits) apart once =
    one_distinct voices at (flat_map (seated_voice voices) sits) (slice_get voices at.place) refl
    (λ v e. each_apart voices at.place v sits apart e once.0) (drawn_distinct voices sits apart once.1)

-- ---- the first voice
led_by : (vs : List ℕ) → is_lower (leading vs) ≡ false
led_by [] = refl
led_by (v ∷ vs) = refl

-- there is a first voice, and it is not lower
abbrev Leads : List Voice → Type 0
Leads [] = ⊥
Leads (v ∷ vs) = is_lower v.seat ≡ false

first_leads : (voices : List Voice) (v : ℕ) (leads : Bool) (vs : List ℕ) (rest : List Voice)
    → v < length voices → Leads (seated_voice voices (sit v (leading vs) leads) ++ rest)
first_leads voices v leads vs rest known = elim (slice_get_cases voices v).1 [
  | inl found ↦ let e : slice_get voices v ≡ Some found.0 = found.2 in rw e (led_by vs)
  | inr past ↦ absurd (omega (arith, past.0, known))
]

staff_leads : (voices : List Voice) (leads : Bool) (vs : List ℕ) (rest : List SeatedVoice)
    → 1 ≤ length vs
    → ((k : ℕ) → (more : List ℕ) → vs ≡ k ∷ more → k < length voices)
    → Leads (flat_map (seated_voice voices) (staff_sits leads vs ++ rest))
staff_leads voices leads [] rest some known = absurd (omega (arith, some))
staff_leads voices leads (v ∷ vs) rest some known =
    first_leads voices v leads vs (flat_map (seated_voice voices) (map (lower leads) vs ++ rest)) (known v vs refl)

first_known : (n : ℕ) (vs rest : List ℕ) (k : ℕ) (more : List ℕ) → vs ≡ k ∷ more → All (λ v. v < n) (vs ++ rest) → k < n
first_known n vs rest k more e h =
    let all : All (λ v. v < n) (k ∷ more ++ rest) = subst (λ x. All (λ v. v < n) (x ++ rest)) e h in
    all 0 0 (omega arith)

drawn_leads : (voices : List Voice) (staves : List PlannedStaff)
    → 1 ≤ length staves → All (λ v. v < length voices) (planned_voices staves)
    → All (λ staff. 1 ≤ length staff.voices) staves
    → Leads (flat_map (seated_voice voices) (sits_of staves))
drawn_leads voices [] some known full = absurd (omega (arith, some))
drawn_leads voices (staff ∷ staves) some known full =
    staff_leads voices staff.leads staff.voices (sits_of staves) (full 0 staff (omega arith))
    (λ k more e. first_known (length voices) staff.voices (planned_voices staves) k more e known)

led_first : (voices : List Voice) → Leads voices → IsLed voices
led_first [] h = absurd h
led_first (v ∷ vs) h = h

some_first : (voices : List Voice) → Leads voices → 1 ≤ length voices
some_first [] h = absurd h
some_first (v ∷ vs) h = omega arith

pub drawn_heard : (s : Score) (p : Plan) → IsPlanFor (length s.voices) p → 1 ≤ length (drawn_of s p).voices
drawn_heard s p plan =
    some_first (flat_map (seated_voice s.voices) (sits_of p.staves))
    (drawn_leads s.voices p.staves plan.some plan.known plan.full)

pub drawn_good : (s : Score) (p : Plan) → IsGoodScore s → IsPlanFor (length s.voices) p → IsGoodScore (drawn_of s p)
drawn_good s p good plan =
    let sits = sits_of p.staves in
    let voices = flat_map (seated_voice s.voices) sits in
    let once = subst NamesEachOnce (sym (places p.staves)) plan.once in
    let count = drawn-le (λ v. 1) s.voices p.staves (λ at v. refl) plan.once in
    let weight = drawn-le voice_weight s.voices p.staves (λ at v. refl) plan.once in
    let drawn = counted voices in
    let all = counted s.voices in
    record {
      few_voices = omega (arith, count, drawn, all, good.few_voices);
      few_measures = good.few_measures;
      few_heads = omega (arith, weight, good.few_heads);
      voices =
          All-from_recursion IsGoodVoice voices
          (each_drawn IsGoodVoice IsGoodVoice s.voices sits good.voices seated_good);
      measures =
          All-from_recursion (λ v. length v.measures ≡ s.measures) voices
          (each_drawn (λ v. length v.measures ≡ s.measures) (λ v. length v.measures ≡ s.measures) s.voices sits
          good.measures (λ at v long. long));
      ids = distinct_pairs voices (drawn_distinct s.voices sits good.ids once);
      forced = good.forced;
      forced_rise = good.forced_rise;
      led = led_first voices (drawn_leads s.voices p.staves plan.some plan.known plan.full);
    }
