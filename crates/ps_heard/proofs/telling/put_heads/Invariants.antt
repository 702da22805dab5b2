use Rattle.std.{proofs.Common.◌≡◌, proofs.Common.◌++◌, proofs.Common.drop, specs.List.flat_map}
use Rattle.ps_heard.specs.HeardText.{head_line}
use Rattle.ps_heard.proofs.telling.put_heads.Given as goal

abbrev pub invariant-loop-head : goal.invariant-loop-head
invariant-loop-head l = l.out ++ flat_map head_line (drop l.head-index l.heads) ≡ l.fn.out ++ flat_map head_line l.heads
