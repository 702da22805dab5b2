use Rattle.std.proofs.Common.{◌≡◌, ◌++◌, take}
use Rattle.ps_reports.specs.SheetText.{items_report}
use Rattle.ps_reports.proofs.report.put_items.Given as goal

abbrev pub invariant-loop-item : goal.invariant-loop-item
invariant-loop-item l = l.out ≡ l.fn.out ++ items_report (take l.item-index l.items)
