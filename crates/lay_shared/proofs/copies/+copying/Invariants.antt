use Rattle.std.proofs.Common.{◌≡◌, ◌++◌, drop}
use Rattle.lay_shared.proofs.copies.+copying.Given as goal

abbrev pub invariant-copy_body-loop-node : goal.invariant-copy_body-loop-node
invariant-copy_body-loop-node l = l.copy ++ drop l.node-index l.body ≡ l.body
