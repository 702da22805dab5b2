use Rattle.std.proofs.Common.{arith, ◌≡◌, ◌∙◌, ◌+◌, ◌<◌, ◌++◌, length, ap, subst, refl, rules, Err, get_or}
use Rattle.ps_text.specs.Document.{document, numbered, document_page, trailer}
use Rattle.ps_text.specs.Prolog.{prolog}
use Rattle.ps_write.proofs.Prefixes.{Sent, document_start, no_page, page_then, sent_all, sent_more, sent_none}
use Rattle.ps_write.proofs.Prefixes.{wrote_first, wrote_part}
use Rattle.ps_write.proofs.whole.write_document.Goals as goal

pub returns-in_err-w : goal.returns-in_err-w
returns-in_err-w g c =
    let r : c.from_residual.result ≡ Err c.in_err-w.field-0.0 = search rules in
    rw (r, document_start c.args.s.now) (wrote_first _ _ _ _ c.in_err-w.ensures.wrote)

pub loop-p-init : goal.loop-p-init
loop-p-init g c =
    let none = sent_none (g.O.Sink.taken c.args.sink.now) 0 (document c.args.s.now) in
    let s : Sent (g.O.Sink.taken c.args.sink.now) (g.O.Sink.taken c.args.sink.now) 0 0
    (prolog c.args.s.now.frame ++ (numbered document_page 1 c.args.s.now.pages ++ trailer (length c.args.s.now.pages)))
    (document c.args.s.now) = subst
    (λ rest. Sent (g.O.Sink.taken c.args.sink.now) (g.O.Sink.taken c.args.sink.now) 0 0 rest (document c.args.s.now))
    (document_start c.args.s.now) none in
    record {
      pages = search rules;
      sent = rw c.in_ok-w.ensures.writer.pages_now
          (sent_more _ _ _ _ _ _ _ _ _ s c.in_ok-w.ensures.wrote.0 c.in_ok-w.ensures.writer.written_now);
      counts = search rules;
    }

pub returns-in-Err : goal.returns-in-Err
returns-in-Err g c =
    let i : c.p-item.result ≡ get_or c.args.s.now.pages c.loop-p.p-index c.p-item.result =
    rw c.as_slice-p-items.ensures at c.p-item.is in
    let t : c.loop-p.p-index < length c.args.s.now.pages = rw c.as_slice-p-items.ensures at c.loop-p-test.true in
    let s = rw
    (page_then (c.loop-p.w.pages + 1) c.loop-p.p-index c.args.s.now.pages c.p-item.result
    (trailer (length c.args.s.now.pages)) t i)
    at c.loop-p.invariant.sent in
    rw c.counted_from.ensures
    (wrote_part _ _ _ _ _ _ _ _ _ _ s (omega arith) c.loop-p.invariant.counts c.in-Err.ensures.wrote)

pub loop-p-preserved : goal.loop-p-preserved
loop-p-preserved g c =
    let i : c.p-item.result ≡ get_or c.args.s.now.pages c.loop-p.p-index c.p-item.result =
    rw c.as_slice-p-items.ensures at c.p-item.is in
    let t : c.loop-p.p-index < length c.args.s.now.pages = rw c.as_slice-p-items.ensures at c.loop-p-test.true in
    let s = rw
    (page_then (c.loop-p.w.pages + 1) c.loop-p.p-index c.args.s.now.pages c.p-item.result
    (trailer (length c.args.s.now.pages)) t i)
    at c.loop-p.invariant.sent in
    record {
      pages = search rules;
      sent = rw c.in-Ok.ensures.writer.pages_now
          (sent_more _ _ _ _ _ _ _ _ _ s c.in-Ok.ensures.wrote.0 c.in-Ok.ensures.writer.written_now);
      counts = search rules;
    }

pub returns-in-Ok-finish : goal.returns-in-Ok-finish
returns-in-Ok-finish g c =
    let all : c.loop-p.p-index ≡ length c.args.s.now.pages = omega (arith, ap length c.as_slice-p-items.ensures) in
    let s = rw
    (no_page (c.loop-p.w.pages + 1) c.loop-p.p-index c.args.s.now.pages (trailer (length c.args.s.now.pages)) all) at
    c.loop-p.invariant.sent in
    let text = rw (c.loop-p.invariant.pages, all) at c.in-Ok-finish.ensures.wrote in
    ((sent_all _ _ _ _ _ (sent_more _ _ _ _ _ _ _ _ _ s text.0 refl)).0, text.1 ∙ c.loop-p.invariant.counts)

pub returns-in-Err-finish : goal.returns-in-Err-finish
returns-in-Err-finish g c =
    let all : c.loop-p.p-index ≡ length c.args.s.now.pages = omega (arith, ap length c.as_slice-p-items.ensures) in
    let s = rw
    (no_page (c.loop-p.w.pages + 1) c.loop-p.p-index c.args.s.now.pages (trailer (length c.args.s.now.pages)) all) at
    c.loop-p.invariant.sent in
    let text = rw (c.loop-p.invariant.pages, all) at c.in-Err-finish.ensures.wrote in
    rw c.counted_from-in-Err-finish.ensures
    (wrote_part _ _ _ _ _ _ _ _ _ _ s (omega arith) c.loop-p.invariant.counts text)
