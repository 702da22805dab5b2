use Rattle.{std.proofs.Common.{length}, abc_events.specs.Nesting.{Puts}}
use Rattle.abc_events.proofs.nesting.close_full.Given as goal

abbrev pub invariant-loop-o : goal.invariant-loop-o
invariant-loop-o l = Puts l.fn.stack.items l.fn.body l.stack.items l.body (λ f. f)

abbrev pub decreases-loop-o : goal.decreases-loop-o
decreases-loop-o l = length l.stack.items
