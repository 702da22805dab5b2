use Rattle.std.proofs.Common.{◌≡◌, ◌++◌, drop}
use Rattle.ps_heard.proofs.tunes.put_items.Given as goal

abbrev pub invariant-loop-item : goal.invariant-loop-item
invariant-loop-item l = l.out ++ drop l.item-index l.items ≡ l.fn.out ++ l.items
