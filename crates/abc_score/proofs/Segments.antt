-- The measures of a voice in sequence are the voice, if no event is in an earlier measure than one before it.
use Rattle.std.proofs.{lemmas.Bool.{cases_lt, ne_eqb, eq-eqb}, Common.{length, true, false}}
use Rattle.std.proofs.Common.{cond, arith, ⊎_elim, ◌≡◌, ◌∙◌, refl, sym, ap, subst, ℕ, zero, suc, ◌+◌, ◌≤◌, ◌<◌, List}
use Rattle.std.proofs.Common.{[], ◌∷◌, ◌++◌, map, sum_by}
use Rattle.std.proofs.lemmas.List.{map-append}
use Rattle.std.proofs.lemmas.List.Concat.{flat_map-append}
use Rattle.std.proofs.lemmas.List.Folds.{flat_map-map}
use Rattle.std.proofs.lemmas.List.Sums.{sum_by-cons, sum_by-append}
use Rattle.std.specs.{Prelude.{⊤, flat_map, ◌==◌}, List.{AllByRecursion, range_with_len}}
use Rattle.mus_units.specs.declared.note.Bar.{Bar}
use Rattle.abc_events.specs.Leaf.{Leaf}
use Rattle.abc_events.specs.Measures.{leaves_in, measure_of_leaves, measures_in}
use Rattle.mus_score.specs.declared.score.Flat.{Flat}
use Rattle.mus_score.specs.declared.score.Music.{Music}
use Rattle.mus_score.specs.declared.score.Measure.{Measure}
use Rattle.mus_score.specs.GoodScore.{events_of}
use Rattle.mus_score.specs.Times.{flats_of}
use Rattle.abc_score.proofs.Basics.{either}
use Rattle.abc_score.proofs.Rows.{leaf_rows, weight_of, tree_weight}
use Rattle.abc_score.proofs.Cores.{core, IsSung, sung, tree_sings}

-- events from a measure on and before another, none in an earlier measure than one before it
abbrev pub Rise : ℕ → ℕ → List Leaf → Type 0
Rise low top [] = ⊤
Rise low top (Leaf.Event measure nodes ∷ ls) = (low ≤ measure) × (measure < top) × Rise measure top ls
Rise low top (Leaf.Opens measure p q r ∷ ls) = Rise low top ls

pub rise_lower : (low high top : ℕ) (ls : List Leaf) → low ≤ high → Rise high top ls → Rise low top ls
rise_lower low high top [] less rise = tt
rise_lower low high top (Leaf.Event measure nodes ∷ ls) less rise =
    let first : high ≤ measure = rise.0 in (omega arith, rise.1, rise.2)
rise_lower low high top (Leaf.Opens measure p q r ∷ ls) less rise = rise_lower low high top ls less rise

-- the events of a measure
abbrev pub rows_in : ℕ → List Leaf → List (List Music)
rows_in k ls = leaf_rows (leaves_in k ls)

-- an event in its own measure and in another, and a tuplet
in_own : (k m : ℕ) (nodes : List Music) (ls : List Leaf)
    → (m == k) ≡ true → rows_in k (Leaf.Event m nodes ∷ ls) ≡ nodes ∷ rows_in k ls
in_own k m nodes ls e = ap (λ b. leaf_rows (cond b (Leaf.Event m nodes ∷ leaves_in k ls) (leaves_in k ls))) e

in_other : (k m : ℕ) (nodes : List Music) (ls : List Leaf)
    → (m == k) ≡ false → rows_in k (Leaf.Event m nodes ∷ ls) ≡ rows_in k ls
in_other k m nodes ls e = ap (λ b. leaf_rows (cond b (Leaf.Event m nodes ∷ leaves_in k ls) (leaves_in k ls))) e

pub opens_in : (k m p q r : ℕ) (ls : List Leaf) → rows_in k (Leaf.Opens m p q r ∷ ls) ≡ rows_in k ls
opens_in k m p q r ls = either (λ z. leaf_rows z ≡ rows_in k ls) (m == k) _ _ refl refl

none_in : (k low top : ℕ) (ls : List Leaf) → k < low → Rise low top ls → rows_in k ls ≡ []
none_in k low top [] less rise = refl
none_in k low top (Leaf.Event m nodes ∷ ls) less rise =
    let first : low ≤ m = rise.0 in
    in_other k m nodes ls (ne_eqb m k (λ same. omega arith)) ∙ none_in k m top ls (omega arith) rise.2
none_in k low top (Leaf.Opens m p q r ∷ ls) less rise = opens_in k m p q r ls ∙ none_in k low top ls less rise

-- ---- lists made of a range
pub flat_same : {X Y : Type 0} (f g : X → List Y)
    → ((x : X) → f x ≡ g x) → (xs : List X) → flat_map f xs ≡ flat_map g xs
flat_same f g same [] = refl
flat_same f g same (x ∷ xs) = ap (λ z. z ++ flat_map f xs) (same x) ∙ ap (λ z. g x ++ z) (flat_same f g same xs)

-- the events of n measures from one on
abbrev rows_from : ℕ → ℕ → List Leaf → List (List Music)
rows_from low n ls = flat_map (λ k. rows_in k ls) (range_with_len low n)

none_each : (n low : ℕ) → rows_from low n [] ≡ []
none_each zero low = refl
none_each (suc n) low = none_each n (low + 1)

later_same : (m n from : ℕ) (nodes : List Music) (ls : List Leaf)
    → m < from → rows_from from n (Leaf.Event m nodes ∷ ls) ≡ rows_from from n ls
later_same m zero from nodes ls less = refl
later_same m (suc n) from nodes ls less =
    ap (λ z. z ++ rows_from (from + 1) n (Leaf.Event m nodes ∷ ls))
    (in_other from m nodes ls (ne_eqb m from (λ same. omega (arith, less, same))))
    ∙ ap (λ z. rows_in from ls ++ z) (later_same m n (from + 1) nodes ls (omega (arith, less)))

abbrev Whole : ℕ → List Leaf → ℕ → ℕ → Type 0
Whole top ls n low = low + n ≡ top → Rise low top ls → rows_from low n ls ≡ leaf_rows ls

with_event : (n low top m : ℕ) (nodes : List Music) (ls : List Leaf) → low + n ≡ top → low ≤ m → m < top → Rise m top ls
    → ((n low : ℕ) → Whole top ls n low) → rows_from low n (Leaf.Event m nodes ∷ ls) ≡ nodes ∷ leaf_rows ls
with_event zero low top m nodes ls e from below rise others = absurd (omega (arith, e, from, below))
with_event (suc n) low top m nodes ls e from below rise others =
    ⊎_elim (λ less.
    ahead less (with_event n (low + 1) top m nodes ls (omega (arith, e)) (omega (arith, less)) below rise others))
    (λ more. own (omega (arith, from, more))) (cases_lt low m) where
      own : m ≡ low → rows_from low (suc n) (Leaf.Event m nodes ∷ ls) ≡ nodes ∷ leaf_rows ls
      own same =
          ap (λ z. z ++ rows_from (low + 1) n (Leaf.Event m nodes ∷ ls)) (in_own low m nodes ls (eq-eqb m low same))
          ∙ ap (λ z. (nodes ∷ rows_in low ls) ++ z) (later_same m n (low + 1) nodes ls (omega (arith, same)))
          ∙ ap (λ z. nodes ∷ z) (others (suc n) low e (rise_lower low m top ls from rise))

      ahead : low < m → rows_from (low + 1) n (Leaf.Event m nodes ∷ ls) ≡ nodes ∷ leaf_rows ls
          → rows_from low (suc n) (Leaf.Event m nodes ∷ ls) ≡ nodes ∷ leaf_rows ls
      ahead less more =
          let none =
          in_other low m nodes ls (ne_eqb m low (λ same. omega (arith, less, same))) ∙ none_in low m top ls less rise in
          ap (λ z. z ++ rows_from (low + 1) n (Leaf.Event m nodes ∷ ls)) none ∙ more

segments : (ls : List Leaf) (top n low : ℕ) → Whole top ls n low
segments [] top n low e rise = none_each n low
segments (Leaf.Event measure nodes ∷ ls) top n low e rise =
    with_event n low top measure nodes ls e rise.0 rise.1 rise.2 (segments ls top)
segments (Leaf.Opens measure p q r ∷ ls) top n low e rise =
    flat_same _ _ (λ k. opens_in k measure p q r ls) (range_with_len low n) ∙ segments ls top n low e rise

all_rows : (n : ℕ) (ls : List Leaf) → Rise 0 n ls → rows_from 0 n ls ≡ leaf_rows ls
all_rows n ls rise = segments ls n n 0 (omega arith) rise

-- ---- the events and the weight of all measures
kept_in : (P : List Music → Type 0) (k : ℕ) (ls : List Leaf)
    → AllByRecursion P (leaf_rows ls) → AllByRecursion P (rows_in k ls)
kept_in P k [] h = tt
kept_in P k (Leaf.Event m nodes ∷ ls) h =
    let others = kept_in P k ls h.1 in either (λ z. AllByRecursion P (leaf_rows z)) (m == k) _ _ (h.0, others) others
kept_in P k (Leaf.Opens m p q r ∷ ls) h = subst (AllByRecursion P) (sym (opens_in k m p q r ls)) (kept_in P k ls h)

-- a measure weighs no more than all
pub weight_in : (k : ℕ) (ls : List Leaf) → sum_by weight_of (rows_in k ls) ≤ sum_by weight_of (leaf_rows ls)
weight_in k [] = omega arith
weight_in k (Leaf.Event m nodes ∷ ls) =
    let all = sum_by-cons weight_of nodes (leaf_rows ls) in
    let own = sum_by-cons weight_of nodes (rows_in k ls) in
    let less = weight_in k ls in
    either (λ z. sum_by weight_of (leaf_rows z) ≤ sum_by weight_of (nodes ∷ leaf_rows ls)) (m == k) _ _
    (omega (arith, less, all, own)) (omega (arith, less, all))
weight_in k (Leaf.Opens m p q r ∷ ls) =
    subst (λ z. sum_by weight_of z ≤ sum_by weight_of (leaf_rows ls)) (sym (opens_in k m p q r ls)) (weight_in k ls)

map_flat : {X : Type 0} (f : X → List Flat) (xs : List X) → map core (flat_map f xs) ≡ flat_map (λ x. map core (f x)) xs
map_flat f [] = refl
map_flat f (x ∷ xs) = map-append core (f x) (flat_map f xs) ∙ ap (λ z. map core (f x) ++ z) (map_flat f xs)

flat_flat : {X Y Z : Type 0} (f : Y → List Z) (g : X → List Y) (xs : List X)
    → flat_map (λ x. flat_map f (g x)) xs ≡ flat_map f (flat_map g xs)
flat_flat f g [] = refl
flat_flat f g (x ∷ xs) =
    ap (λ z. flat_map f (g x) ++ z) (flat_flat f g xs) ∙ sym (flat_map-append f (g x) (flat_map g xs))

module _ (leaves : List Leaf) (bars : List Bar) where
  pub measures_sing : Rise 0 (length bars) leaves → AllByRecursion IsSung (leaf_rows leaves)
      → map core (events_of (measures_in leaves bars)) ≡ flat_map sung (leaf_rows leaves)
  measures_sing rise all =
      let ks = range_with_len 0 (length bars) in
      ap (map core) (flat_map-map (λ (m : Measure). flats_of m.body) (measure_of_leaves leaves bars) ks) ∙ map_flat _ ks
      ∙ flat_same _ _ (λ k. tree_sings (leaves_in k leaves) (kept_in IsSung k leaves all)) ks
      ∙ flat_flat sung (λ k. rows_in k leaves) ks ∙ ap (flat_map sung) (all_rows (length bars) leaves rise)

  sum_each : (ks : List ℕ)
      → sum_by (λ (m : Measure). weight_of m.body) (map (measure_of_leaves leaves bars) ks)
      ≡ sum_by weight_of (flat_map (λ k. rows_in k leaves) ks)
  sum_each [] = refl
  sum_each (k ∷ ks) =
      let first = sum_by-cons (λ (m : Measure). weight_of m.body) (measure_of_leaves leaves bars k)
      (map (measure_of_leaves leaves bars) ks) in
      let both = sum_by-append weight_of (rows_in k leaves) (flat_map (λ k. rows_in k leaves) ks) in
      omega (arith, first, tree_weight (leaves_in k leaves), sum_each ks, both)

  pub measures_weigh : Rise 0 (length bars) leaves
      → sum_by (λ (m : Measure). weight_of m.body) (measures_in leaves bars) ≡ sum_by weight_of (leaf_rows leaves)
  measures_weigh rise =
      sum_each (range_with_len 0 (length bars)) ∙ ap (sum_by weight_of) (all_rows (length bars) leaves rise)
