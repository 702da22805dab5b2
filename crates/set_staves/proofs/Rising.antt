-- Rising columns are in the order of their ranks, and are distinguished by their abscissas.
use Rattle.std.proofs.Common.{◌≡◌, ℕ, zero, suc, ◌+◌, ◌-◌, ◌<◌, ◌==◌, ◌||◌, nat_lt, true, IsTrue, int_lt, List, [], ◌∷◌}
use Rattle.std.proofs.Common.{length, map, ℤ, pos, ◌<ℤ◌, Some, refl, ap, ap₂, ◌∙◌, subst, arith, inl, inr}
use Rattle.std.proofs.lemmas.Bool.{cases_order}
use Rattle.std.proofs.lemmas.Bool.Decides.{nat_tests}
use Rattle.std.proofs.lemmas.Int.{ints}
use Rattle.std.specs.List.{list_any, AllByRecursion}
use Rattle.ps_text.specs.Ranks.{is_same, count_below, rank_of}
use Rattle.set_staves.specs.Marks.{RisesAlong, x_at}
use Rattle.set_staves.proofs.Counting.{distinct_below, all_below}

further : (at : List ℤ) → RisesAlong at → (d i j : ℕ) → i + suc d ≡ j → j < length at → x_at at i <ℤ x_at at j
further at rise zero i j e long =
    let next : i + 1 ≡ j = omega arith in subst (λ t. x_at at i <ℤ x_at at t) next (rise i (omega arith))
further at rise (suc d) i j e long =
    let before = further at rise d i (i + suc d) refl (omega arith) in
    let next = rise (i + suc d) (omega arith) in
    let last : x_at at (i + suc d + 1) ≡ x_at at j = ap (x_at at) (omega arith) in
    omega (arith, ints, before, next, last)

pub rises : (at : List ℤ) → RisesAlong at → (i j : ℕ) → i < j → j < length at → x_at at i <ℤ x_at at j
rises at rise i j lt long = further at rise (j - suc i) i j (omega arith) long

-- tests of abscissas are those of ranks
below : (x y : ℤ) (i j : ℕ) → (i < j → x <ℤ y) → (j < i → y <ℤ x) → (i ≡ j → x ≡ y) → int_lt x y ≡ nat_lt i j
below x y i j less more same = elim (cases_order i j) [
  | inl e ↦ let s = same e in grind (arith, ints, nat_tests)
  | inr (inl l) ↦ let s = less l in grind (arith, ints, nat_tests)
  | inr (inr m) ↦ let s = more m in grind (arith, ints, nat_tests)
]

alike : (x y : ℤ) (i j : ℕ) → (i < j → x <ℤ y) → (j < i → y <ℤ x) → (i ≡ j → x ≡ y) → is_same x y ≡ (i == j)
alike x y i j less more same = elim (cases_order i j) [
  | inl e ↦ let s = same e in grind (arith, ints, nat_tests)
  | inr (inl l) ↦ let s = less l in grind (arith, ints, nat_tests)
  | inr (inr m) ↦ let s = more m in grind (arith, ints, nat_tests)
]

below_at : (at : List ℤ)
    → RisesAlong at → (i j : ℕ) → i < length at → j < length at → int_lt (x_at at i) (x_at at j) ≡ nat_lt i j
below_at at rise i j l m =
    below (x_at at i) (x_at at j) i j (λ o. rises at rise i j o m) (λ o. rises at rise j i o l) (λ e. ap (x_at at) e)

alike_at : (at : List ℤ)
    → RisesAlong at → (i j : ℕ) → i < length at → j < length at → is_same (x_at at i) (x_at at j) ≡ (i == j)
alike_at at rise i j l m =
    alike (x_at at i) (x_at at j) i j (λ o. rises at rise i j o m) (λ o. rises at rise j i o l) (λ e. ap (x_at at) e)

-- a rank is among some exactly when its abscissa is among theirs
pub any_at : (at : List ℤ)
    → RisesAlong at → (i : ℕ) (all : List ℕ) → i < length at → AllByRecursion (λ r. r < length at) all
    → list_any (is_same (x_at at i)) (map (x_at at) all) ≡ list_any (λ y. i == y) all
any_at at rise i [] l h = refl
any_at at rise i (r ∷ all) l (here, more) =
    ap₂ (λ a b. a || b) (alike_at at rise i r l here) (any_at at rise i all l more)

-- the number of different abscissas below one is the number of different ranks below its rank
count_at : (at : List ℤ) → RisesAlong at → (i : ℕ) (all : List ℕ) → i < length at
    → AllByRecursion (λ r. r < length at) all
    → count_below (x_at at i) (map (x_at at) all) ≡ distinct_below i all
count_at at rise i [] l h = refl
count_at at rise i (r ∷ all) l (here, more) =
    rw (below_at at rise r i here l, any_at at rise r all here more, count_at at rise i all l more) refl

-- the rank of a column's abscissa is the rank of the column, if each column is some anchor's
pub ranked_at : (at : List ℤ)
    → RisesAlong at → (i : ℕ) (all : List ℕ) → i < length at → AllByRecursion (λ r. r < length at) all
    → ((k : ℕ) → k < length at → IsTrue (list_any (λ y. k == y) all))
    → rank_of (map (x_at at) all) (x_at at i) ≡ Some (pos i)
unfolding rank_of
ranked_at at rise i all l h has =
    let found : list_any (is_same (x_at at i)) (map (x_at at) all) ≡ true = any_at at rise i all l h ∙ has i l in
    let count : count_below (x_at at i) (map (x_at at) all) ≡ i =
    count_at at rise i all l h ∙ all_below i all (λ k m. has k (omega arith)) in
    rw (found, count) refl
