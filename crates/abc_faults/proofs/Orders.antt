-- The derived order of weights is the order of the text.
use Rattle.std.proofs.Common.{◌≡◌, refl, ℕ, suc, ◌<◌, ◌≤◌, List, [], ◌∷◌, length, get_or, Bool, false, arith}
use Rattle.std.proofs.lemmas.Bool.Decides.{nat_tests}
use Rattle.std.proofs.lemmas.List.Elements.{recursion_from_All}
use Rattle.std.proofs.lemmas.List.Sorted.{ranks_by, sorted_far}
use Rattle.std.specs.List.Sorted.{IsSorted}
use Rattle.std.specs.Ordering.{is_lt, nat_cmp, ordering_then}
use Rattle.abc_faults.specs.contracts.weights.WeightOrd.TheImpl.{ghosts}
use Rattle.abc_faults.specs.contracts.weights.WeightOrd.TheImpl.Laws.{total-law}
use Rattle.abc_faults.specs.declared.weights.Weight.{Weight}
use Rattle.abc_faults.specs.Weights.{stands_before, IsAfter, AreInOrder}

shape : (v w : Weight)
    → ghosts.cmp v w
    ≡ ordering_then (nat_cmp v.line w.line) (ordering_then (nat_cmp v.column w.column) (nat_cmp v.count w.count))
shape v w = refl

less_before : (v w : Weight) → is_lt (ghosts.cmp v w) ≡ false → stands_before v w ≡ false
unfolding stands_before
less_before v w h = grind (arith, nat_tests)

from_places : (ws : List Weight)
    → ((i j : ℕ) (d : Weight) → i ≤ j → j < length ws → IsAfter (get_or ws i d) (get_or ws j d)) → AreInOrder ws
from_places [] h = tt
from_places (w ∷ ws) h = (
  recursion_from_All (IsAfter w) ws (λ k d less. h 0 (suc k) d (omega arith) (omega arith)),
  from_places ws (λ i j d le less. h (suc i) (suc j) d (omega arith) (omega arith)),
)

pub order_from_sorted : (ws : List Weight) → IsSorted ghosts.cmp ws → AreInOrder ws
order_from_sorted ws h =
    let lt : Weight → Weight → Bool = λ v w. is_lt (ghosts.cmp v w) in
    from_places ws (λ i j d le less.
    less_before (get_or ws j d) (get_or ws i d) (sorted_far lt (ranks_by total-law (λ w. w)) ws h i j d le less))
