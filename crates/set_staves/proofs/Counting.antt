-- How many different numbers of a list are below a bound: as many as there are, if the list has each.
use Rattle.std.proofs.Common.{◌≡◌, ℕ, zero, suc, ◌+◌, ◌<◌, ◌==◌, ◌&&◌, ◌||◌, not, nat_lt, if◌then◌else◌, Bool, true}
use Rattle.std.proofs.Common.{false, IsTrue, List, [], ◌∷◌, refl, ap, arith}
use Rattle.std.proofs.lemmas.Bool.Decides.{nat_tests}
use Rattle.std.specs.List.{list_any}

abbrev pub distinct_below : ℕ → List ℕ → ℕ
distinct_below r [] = 0
distinct_below r (a ∷ rest) =
    if nat_lt a r && not (list_any (λ y. a == y) rest) then distinct_below r rest + 1 else distinct_below r rest

abbrev one_if : Bool → ℕ
one_if true = 1
one_if false = 0

-- the number a is counted below r + 1 and not below r only if it is r and does not occur again
step : (a r more less : ℕ) (again found : Bool) → (a ≡ r → again ≡ found) → more ≡ less + one_if found
    → (if nat_lt a (suc r) && not again then more + 1 else more)
    ≡ (if nat_lt a r && not again then less + 1 else less) + one_if ((r == a) || found)
step a r more less true true same e = grind (arith, nat_tests)
step a r more less true false same e = grind (arith, nat_tests)
step a r more less false true same e = grind (arith, nat_tests)
step a r more less false false same e = grind (arith, nat_tests)

one_more : (r : ℕ) (all : List ℕ)
    → distinct_below (suc r) all ≡ distinct_below r all + one_if (list_any (λ y. r == y) all)
one_more r [] = refl
one_more r (a ∷ rest) =
    step a r (distinct_below (suc r) rest) (distinct_below r rest) (list_any (λ y. a == y) rest)
    (list_any (λ y. r == y) rest)
    (λ e. ap (λ t. list_any (λ y. t == y) rest) e) (one_more r rest)

none_below : (all : List ℕ) → distinct_below 0 all ≡ 0
none_below [] = refl
none_below (a ∷ rest) = let e = none_below rest in grind (arith, nat_tests, e)

-- a list that has each number below r has r different numbers below r
pub all_below : (r : ℕ) (all : List ℕ)
    → ((k : ℕ) → k < r → IsTrue (list_any (λ y. k == y) all)) → distinct_below r all ≡ r
all_below zero all has = none_below all
all_below (suc r) all has =
    let found = ap one_if (has r (omega arith)) in
    let less = all_below r all (λ k l. has k (omega arith)) in
    let e = one_more r all in
    omega (arith, found, less, e)
