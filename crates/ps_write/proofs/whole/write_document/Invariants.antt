use Rattle.std.proofs.Common.{◌≡◌, ◌+◌, ◌++◌, length, drop}
use Rattle.{ps_text.specs.Document.{document, numbered, document_page, trailer}, ps_write.proofs.Prefixes.{Sent}}
use Rattle.ps_write.proofs.whole.write_document.Given as goal

abbrev pub invariant-loop-p : goal.invariant-loop-p
invariant-loop-p g l = record {
  pages : l.w.pages ≡ l.p-index;
  sent : Sent (g.O.Sink.taken l.fn.sink) (g.O.Sink.taken l.sink) 0 l.w.written
      (numbered document_page (l.w.pages + 1) (drop l.p-index l.s.pages) ++ trailer (length l.s.pages)) (document l.s);
  counts : g.O.Sink.faults l.sink ≡ g.O.Sink.faults l.fn.sink;
}
