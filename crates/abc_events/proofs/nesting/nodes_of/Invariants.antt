use Rattle.std.proofs.Common.{◌≡◌, [], length}
use Rattle.abc_events.specs.Nesting.{grown}
use Rattle.abc_events.proofs.nesting.nodes_of.Given as goal

abbrev pub invariant-loop-o : goal.invariant-loop-o
invariant-loop-o l = grown l.tree [] ≡ grown l.fn.tree []

abbrev pub decreases-loop-o : goal.decreases-loop-o
decreases-loop-o l = length l.tree.stack.items
