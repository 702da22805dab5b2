use Rattle.lay_cert.{specs.declared.lines.ListingLine.ListingLine, proofs.Put.put_next}
use Rattle.lay_cert.proofs.write.put_spans.Goals as goal

pub loop-span-preserved : goal.loop-span-preserved
loop-span-preserved c =
    put_next ListingLine.OneSpan c.args.spans.now c.loop-span.span-index (record { a = 0; b = 0; badness = 0 })
    c.args.out.now c.loop-span.out c.put_line.new.out
    c.loop-span-test.true c.loop-span.invariant c.in_ok-put_line.ensures
