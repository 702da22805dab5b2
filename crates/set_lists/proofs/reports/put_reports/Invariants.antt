use Rattle.std.proofs.Common.{◌≡◌, ◌++◌, take}
use Rattle.set_lists.specs.Reports.{reports}
use Rattle.set_lists.proofs.reports.put_reports.Given as goal

abbrev pub invariant-loop-outcome : goal.invariant-loop-outcome
invariant-loop-outcome l = l.out ≡ l.fn.out ++ reports (take l.outcome-index l.outcomes)
