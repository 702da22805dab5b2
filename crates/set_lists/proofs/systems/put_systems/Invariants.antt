use Rattle.std.proofs.Common.{◌≡◌, ◌++◌, take}
use Rattle.set_lists.specs.Systems.{systems_text}
use Rattle.set_lists.proofs.systems.put_systems.Given as goal

abbrev pub invariant-loop-outcome : goal.invariant-loop-outcome
invariant-loop-outcome l = l.out ≡ l.fn.out ++ systems_text (take l.outcome-index l.outcomes)
