-- The open tuplets at a place are those opened at or before it, less the events since.
use Rattle.std.proofs.Common.{◌≡◌, ◌∙◌, refl, sym, ap, ℕ, ◌+◌, ◌-◌, ◌≤◌, List, [], ◌∷◌, Bool, true, false, cond, arith}
use Rattle.std.proofs.lemmas.Bool.Decides.{nat_tests}
use Rattle.std.specs.Prelude.{nat_le, nat_lt, ⊤}
use Rattle.abc_steps.specs.declared.step.Step.{Step}
use Rattle.abc_steps.specs.declared.tuplets.OpenTuplets.{OpenTuplets}
use Rattle.abc_steps.specs.Looks.{Steps}
use Rattle.abc_steps.specs.Taking.{left_of, left_at, left_since, still_taken, StandsIn, IsWellOpened, AreWellOpened}
use Rattle.abc_steps.specs.Taking.{tuplets_taking}
use Rattle.abc_steps.specs.Tuplets.{or_default, fits, one_less, after_event, with_tuplet_opened, open_tuplets_after}
use Rattle.abc_steps.specs.Tuplets.{open_tuplets_at}

-- one event less for each, without those that take no more
abbrev less_by : Bool → ℕ → List ℕ → List ℕ
less_by goes_on left others = cond goes_on ((left - 1) ∷ others) others

abbrev each_less : List ℕ → List ℕ
each_less [] = []
each_less (left ∷ others) = less_by (nat_lt 1 left) left (each_less others)

opened_less : (r events : ℕ) (open_now more : Bool) (others fewer : List ℕ)
    → nat_lt events r ≡ open_now → nat_lt (events + 1) r ≡ more → fewer ≡ each_less others
    → cond more ((r - (events + 1)) ∷ fewer) fewer ≡ each_less (cond open_now ((r - events) ∷ others) others)
opened_less r events true true others fewer a b e =
    let left : r - (events + 1) ≡ r - events - 1 = grind (arith, nat_tests, a, b) in
    let some : nat_lt 1 (r - events) ≡ true = grind (arith, nat_tests, a, b) in
    ap (λ n. n ∷ fewer) left ∙ ap (λ x. (r - events - 1) ∷ x) e
    ∙ ap (λ t. less_by t (r - events) (each_less others)) (sym some)
opened_less r events true false others fewer a b e =
    let none : nat_lt 1 (r - events) ≡ false = grind (arith, nat_tests, a, b) in
    e ∙ ap (λ t. less_by t (r - events) (each_less others)) (sym none)
opened_less r events false true others fewer a b e =
    absurd (let clash : true ≡ false = grind (arith, nat_tests, a, b) in cc)
opened_less r events false false others fewer a b e = e

one_more : (before : Steps) (events : ℕ) → left_since before (events + 1) ≡ each_less (left_since before events)
unfolding left_at
one_more [] events = refl
one_more (s ∷ before) events = by_step s.step (one_more before) where
  by_step : (step : Step)
      → ((k : ℕ) → left_since before (k + 1) ≡ each_less (left_since before k))
      → left_at step (left_since before) (events + 1) ≡ each_less (left_at step (left_since before) events)
  by_step (Step.Sound _) earlier = earlier (events + 1)
  by_step (Step.Measures seen count) earlier = refl
  by_step (Step.Bar bar) earlier = refl
  by_step (Step.Tuplet p q r) earlier =
      opened_less (or_default p r) events (nat_lt events (or_default p r)) (nat_lt (events + 1) (or_default p r))
      (left_since before events) (left_since before (events + 1)) refl refl (earlier events)
  by_step _ earlier = earlier events

-- at most two are open, and the inner one takes no more than the outer one
abbrev AreNested : List ℕ → Type 0
AreNested [] = ⊤
AreNested (left ∷ []) = 1 ≤ left
AreNested (inner ∷ outer ∷ []) = (1 ≤ inner) × (inner ≤ outer)
AreNested (inner ∷ outer ∷ _ ∷ more) = ⊥

-- ---- an event
single_less : (left : ℕ) (last : Bool) → nat_le left 1 ≡ last → 1 ≤ left
    → (one_less left ≡ tuplets_taking (each_less (left ∷ []))) × AreNested (each_less (left ∷ []))
single_less left true e some =
    let none : nat_lt 1 left ≡ false = grind (arith, nat_tests, e) in rw (e, none) (refl, tt)
single_less left false e some =
    let more : nat_lt 1 left ≡ true = grind (arith, nat_tests, e) in
    rw (e, more) (refl, grind (arith, nat_tests, e))

both_less : (inner outer : ℕ) (last : Bool) → nat_le inner 1 ≡ last → 1 ≤ inner → inner ≤ outer
    → (after_event (OpenTuplets.Nested inner outer) ≡ tuplets_taking (each_less (inner ∷ outer ∷ [])))
    × AreNested (each_less (inner ∷ outer ∷ []))
unfolding after_event
both_less inner outer true e some within =
    let none : nat_lt 1 inner ≡ false = grind (arith, nat_tests, e) in
    rw (e, none) (single_less outer (nat_le outer 1) refl (omega (arith, some, within)))
both_less inner outer false e some within =
    let more : nat_lt 1 inner ≡ true = grind (arith, nat_tests, e) in
    let most : nat_lt 1 outer ≡ true = grind (arith, nat_tests, e, within) in
    rw (e, more, most) (refl, (grind (arith, nat_tests, e), grind (arith, nat_tests, e, within)))

sound_taken : (open_ones : List ℕ) → AreNested open_ones
    → (after_event (tuplets_taking open_ones) ≡ tuplets_taking (each_less open_ones)) × AreNested (each_less open_ones)
unfolding after_event
sound_taken [] nested = (refl, tt)
sound_taken (left ∷ []) nested = single_less left (nat_le left 1) refl nested
sound_taken (inner ∷ outer ∷ []) nested = both_less inner outer (nat_le inner 1) refl nested.0 nested.1
sound_taken (inner ∷ outer ∷ _ ∷ more) nested = absurd nested

-- ---- a tuplet
opened_taken : (r : ℕ) (open_ones : List ℕ) → AreNested open_ones → 1 ≤ r → StandsIn r open_ones
    → (with_tuplet_opened r (tuplets_taking open_ones) ≡ tuplets_taking (left_of r 0 open_ones))
    × AreNested (left_of r 0 open_ones)
opened_taken r [] nested some stands =
    let open_now : nat_lt 0 r ≡ true = grind (arith, nat_tests, some) in
    let whole : r - 0 ≡ r = omega arith in
    rw (open_now, whole) (refl, some)
opened_taken r (left ∷ []) nested some stands =
    let open_now : nat_lt 0 r ≡ true = grind (arith, nat_tests, some) in
    let within : nat_le r left ≡ true = grind (arith, nat_tests, stands) in
    let whole : r - 0 ≡ r = omega arith in
    rw (open_now, within, whole) (refl, (some, stands))
opened_taken r (inner ∷ outer ∷ more) nested some stands = absurd stands

-- ---- all steps
record Taken (before : Steps) : Type 0 where
  is : open_tuplets_at before ≡ tuplets_taking (still_taken before)
  nested : AreNested (still_taken before)

-- the same after one more step
abbrev TakenAfter : Steps → Step → Type 0
TakenAfter before step =
    (open_tuplets_after step (open_tuplets_at before) ≡ tuplets_taking (left_at step (left_since before) 0))
    × AreNested (left_at step (left_since before) 0)

taken : (before : Steps) → AreWellOpened before → Taken before
unfolding open_tuplets_after left_at
taken [] well = record { is = refl; nested = tt }
taken (s ∷ before) well =
    let a = by_kind s.step well.0 (taken before well.1) in record { is = a.0; nested = a.1 }
  where
    by_kind : (step : Step) → IsWellOpened step (still_taken before) → Taken before → TakenAfter before step
    by_kind (Step.Sound _) well h =
        let next = sound_taken (still_taken before) h.nested in
        rw (one_more before 0) (ap after_event h.is ∙ next.0, next.1)
    by_kind (Step.Measures seen count) well h = (refl, tt)
    by_kind (Step.Bar bar) well h = (refl, tt)
    by_kind (Step.Tuplet p q r) well h =
        let next = opened_taken (or_default p r) (still_taken before) h.nested well.0 well.1 in
        (ap (with_tuplet_opened (or_default p r)) h.is ∙ next.0, next.1)
    by_kind _ well h = (h.is, h.nested)

pub is_taken : (before : Steps) → AreWellOpened before → open_tuplets_at before ≡ tuplets_taking (still_taken before)
is_taken before well = (taken before well).is

-- a tuplet fits exactly if it stands in at most one other, which takes all its events
pub fits_stands : (r : ℕ) (open_ones : List ℕ) → fits r (tuplets_taking open_ones) ≡ true → StandsIn r open_ones
unfolding fits
fits_stands r [] e = tt
fits_stands r (left ∷ []) e = grind (arith, nat_tests, e)
fits_stands r (inner ∷ outer ∷ more) e = absurd cc

pub stands_fits : (r : ℕ) (open_ones : List ℕ) → StandsIn r open_ones → fits r (tuplets_taking open_ones) ≡ true
unfolding fits
stands_fits r [] stands = refl
stands_fits r (left ∷ []) stands = grind (arith, nat_tests, stands)
stands_fits r (inner ∷ outer ∷ more) stands = absurd stands
