use Rattle.std.proofs.Common.{List, subst}
use Rattle.abc_faults.specs.declared.weights.Weight.{Weight}
use Rattle.abc_faults.specs.First.{IsFirstInOrder, first_of}
use Rattle.abc_faults.specs.Weights.{crowded}
use Rattle.abc_faults.proofs.Crowds.{first_along, same_crowd}
use Rattle.abc_faults.proofs.Firsts.{first_is}
use Rattle.abc_faults.proofs.crowd.crowding.Goals as goal

first : (c : goal.After-drop-weights-inside) → IsFirstInOrder (crowded c.args.weights) c.first_crowded.result
first c =
    let found = c.first_crowded.result in let P : List Weight → Type 0 = λ z. IsFirstInOrder (crowded z) found in
    first_along c.args.weights c.in_ok-weights.weights found c.in_ok-weights.ensures.same
    (subst P c.as_slice.ensures c.first_crowded.ensures)

pub returns-clause-value : goal.returns-clause-value
returns-clause-value c =
    same_crowd c.args.weights c.first_crowded.result (first_of (crowded c.args.weights)) (first c)
    (first_is (crowded c.args.weights))

pub returns-clause-first : goal.returns-clause-first
returns-clause-first c = first c
