use Rattle.lay_cert.{specs.declared.lines.ListingLine.ListingLine, proofs.Put.put_next}
use Rattle.lay_cert.proofs.write.put_breaks.Goals as goal

pub loop-bar-preserved : goal.loop-bar-preserved
loop-bar-preserved c =
    put_next ListingLine.Choose c.args.breaks.now c.loop-bar.bar-index 0 c.args.out.now c.loop-bar.out
    c.put_line.new.out
    c.loop-bar-test.true c.loop-bar.invariant c.in_ok-put_line.ensures
