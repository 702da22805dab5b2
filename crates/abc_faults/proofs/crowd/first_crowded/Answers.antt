use Rattle.std.proofs.Common.{sym, subst}
use Rattle.abc_faults.specs.declared.weights.Weight.{Weight}
use Rattle.abc_faults.specs.First.{IsLeastFault}
use Rattle.abc_faults.specs.Weights.{crowded}
use Rattle.abc_faults.proofs.Crowds.{found_at, none_found}
use Rattle.abc_faults.proofs.crowd.first_crowded.Goals as goal

pub returns-then-w-left : goal.returns-then-w-left
returns-then-w-left c =
    let ws = c.args.weights.now in let d : Weight = record { line = 0; column = 0; count = 0 } in
    subst (IsLeastFault (crowded ws)) (sym c.crowd_fault.ensures)
    (found_at ws c.loop-w.w-index c.loop-w.left d c.requires c.loop-w-test.true c.loop-w.invariant c.if-w-left.true)

pub returns : goal.returns
returns c = none_found c.args.weights.now c.loop-w.w-index c.loop-w.left c.loop-w-test.false c.loop-w.invariant
