use Rattle.std.proofs.Common.{◌≡◌, ◌++◌, drop}
use Rattle.mus_drawn.proofs.sounds.say_heads.Given as goal

abbrev pub invariant-loop-head : goal.invariant-loop-head
invariant-loop-head l = l.said ++ drop l.head-index l.heads ≡ l.fn.said ++ l.heads
