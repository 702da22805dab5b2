use Rattle.std.proofs.Common.{◌≡◌, ◌++◌, drop}
use Rattle.ps_heard.proofs.ear.put_heads.Given as goal

abbrev pub invariant-loop-head : goal.invariant-loop-head
invariant-loop-head l = l.out ++ drop l.head-index l.heads ≡ l.fn.out ++ l.heads
