use Rattle.std.proofs.Common.{◌≡◌, ◌++◌, take}
use Rattle.ps_reports.specs.SheetText.{marks_report}
use Rattle.ps_reports.proofs.report.put_marks.Given as goal

abbrev pub invariant-loop-m : goal.invariant-loop-m
invariant-loop-m l = l.out ≡ l.fn.out ++ marks_report (take l.m-index l.marks)
