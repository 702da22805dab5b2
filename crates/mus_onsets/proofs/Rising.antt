-- The derived order of column keys is the order of columns.
use Rattle.std.proofs.Common.{◌≡◌, ◌<◌, List, [], ◌∷◌, true, refl, arith}
use Rattle.std.proofs.lemmas.Bool.Decides.{nat_tests}
use Rattle.std.specs.List.{AllByRecursion}
use Rattle.std.specs.List.Sorted.{IsStrictlySortedBy}
use Rattle.std.specs.Ordering.{nat_cmp, ordering_then}
use Rattle.std.specs.declared.cmp.Ordering.TheVariants.{Less, Equal}
use Rattle.mus_onsets.specs.contracts.keys.ColumnKeyOrd.TheImpl.{ghosts}
use Rattle.mus_onsets.specs.declared.keys.Class.{Class}
use Rattle.mus_onsets.specs.declared.keys.ColumnKey.{ColumnKey}
use Rattle.mus_onsets.specs.Order.{is_below, class_number, BelowAll, Rises}
use Rattle.mus_onsets.specs.contracts.keys.ColumnKeyPartialEq.TheImpl as equal
use Rattle.mus_onsets.specs.contracts.keys.ClassOrd.TheImpl as classes

class_less : (k l : Class) → classes.ghosts.cmp k l ≡ Less → class_number k < class_number l
class_less k l h = grind (arith, nat_tests)

class_equal : (k l : Class) → classes.ghosts.cmp k l ≡ Equal → class_number k ≡ class_number l
class_equal k l h = grind (arith, nat_tests)

shape : (k l : ColumnKey)
    → ghosts.cmp k l
    ≡ ordering_then (nat_cmp k.measure l.measure)
    (ordering_then (nat_cmp k.tick l.tick)
    (ordering_then (classes.ghosts.cmp k.class l.class) (nat_cmp k.place l.place)))
shape k l = refl

below_from_less : (k l : ColumnKey) → ghosts.cmp k l ≡ Less → is_below k l ≡ true
unfolding is_below
below_from_less k l h = grind (arith, nat_tests, class_less, class_equal)

pub same_from_eq : (k l : ColumnKey) → equal.ghosts.eq k l ≡ true → k ≡ l
same_from_eq k l h = grind (arith, nat_tests)

below_all : (k : ColumnKey) (ks : List ColumnKey) → AllByRecursion (λ l. ghosts.cmp k l ≡ Less) ks → BelowAll k ks
below_all k [] h = tt
below_all k (l ∷ ls) h = (below_from_less k l h.0, below_all k ls h.1)

pub rises_from_sorted : (ks : List ColumnKey) → IsStrictlySortedBy ghosts.cmp ks → Rises ks
unfolding IsStrictlySortedBy
rises_from_sorted [] h = tt
rises_from_sorted (k ∷ ks) h = (below_all k ks h.0, rises_from_sorted ks h.1)
