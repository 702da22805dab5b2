use Rattle.std.proofs.Common.{◌≡◌, reverse, length}
use Rattle.ps_machine.specs.Pending.{one_after_another}
use Rattle.ps_machine.proofs.calls.Calls.next.Given as goal

abbrev pub invariant-loop-frame : goal.invariant-loop-frame
invariant-loop-frame l = one_after_another (reverse l.self-inside.frames.items) ≡ l.fn.self

abbrev pub decreases-loop-frame : goal.decreases-loop-frame
decreases-loop-frame l = length l.self-inside.frames.items
