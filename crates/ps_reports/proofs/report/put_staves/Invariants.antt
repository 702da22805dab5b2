use Rattle.std.proofs.Common.{◌≡◌, ◌++◌, drop}
use Rattle.{ps_text.specs.Document.{numbered}, ps_reports.specs.SheetText.{staff_report}}
use Rattle.ps_reports.proofs.report.put_staves.Given as goal

abbrev pub invariant-loop-staff : goal.invariant-loop-staff
invariant-loop-staff l = record {
  count : l.k ≡ l.staff-index;
  text : l.fn.out ++ numbered staff_report 0 l.staves
      ≡ l.out ++ numbered staff_report l.k (drop l.staff-index l.staves);
}
