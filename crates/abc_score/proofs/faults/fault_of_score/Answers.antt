use Rattle.{std.proofs.Common.{◌∙◌, ◌++◌, List, ap, map, subst, sym}, abc_score.proofs.Enough.first_enough}
use Rattle.abc_faults.proofs.{Caps.crowded_capped, Firsts.first_is}
use Rattle.abc_faults.specs.{declared.weights.Weight.Weight, First.IsFirstInOrder, Weights.{capped, crowded}}
use Rattle.abc_score.proofs.faults.fault_of_score.Goals as goal

pub returns-clause-fault : goal.returns-clause-fault
returns-clause-fault c =
    let own = c.in_ok-own.ensures.judged in
    let of_own = subst (IsFirstInOrder own.some) (sym own.first) (first_is own.some) in
    let gathered = own.put ∙ ap (λ (ws : List Weight). ws ++ map capped own.weights) c.new-weights.ensures in
    let of_capped = subst (λ (ws : List Weight). IsFirstInOrder (crowded ws) c.in_ok-crowd.crowd) gathered
    c.in_ok-crowd.ensures.first in
    let of_crowd = subst (λ faults. IsFirstInOrder faults c.in_ok-crowd.crowd) (crowded_capped own.weights) of_capped in
    first_enough own.enough _ (c.earlier.ensures.joined own.some (crowded own.weights) of_own of_crowd)
