use Rattle.std.proofs.Common.{◌≡◌, ◌++◌, ◌+◌, drop}
use Rattle.{ps_text.specs.Document.{numbered}, ps_reports.specs.SheetText.{page_report}}
use Rattle.ps_reports.proofs.report.put_pages.Given as goal

abbrev pub invariant-loop-page : goal.invariant-loop-page
invariant-loop-page l = record {
  count : l.k ≡ l.page-index + 1;
  text : l.fn.out ++ numbered page_report 1 l.pages ≡ l.out ++ numbered page_report l.k (drop l.page-index l.pages);
}
