use Rattle.std.proofs.Common.{◌≡◌, ◌++◌, take}
use Rattle.ps_text.specs.Document.{items_text}
use Rattle.ps_text.proofs.document.put_items.Given as goal

abbrev pub invariant-loop-item : goal.invariant-loop-item
invariant-loop-item l = l.out ≡ l.fn.out ++ items_text (take l.item-index l.items)
