use Rattle.std.proofs.Common.{◌≡◌, ◌++◌, ◌+◌, drop}
use Rattle.{ps_text.specs.Document.{numbered}, ps_reports.specs.PaintText.{painted_page}}
use Rattle.ps_reports.proofs.painted.put_pages.Given as goal

abbrev pub invariant-loop-page : goal.invariant-loop-page
invariant-loop-page l = record {
  count : l.k ≡ 1 + l.page-index;
  text : l.fn.out ++ numbered painted_page 1 l.pages ≡ l.out ++ numbered painted_page l.k (drop l.page-index l.pages);
}
