use Rattle.lay_cert.proofs.Put.{put_next_bar}
use Rattle.lay_cert.proofs.report.put_bars.Goals as goal

pub loop-bar-preserved : goal.loop-bar-preserved
loop-bar-preserved c =
    put_next_bar c.args.bars.now c.loop-bar.bar-index c.args.out.now c.loop-bar.out c.put_next.new.out
    c.loop-bar-test.true c.loop-bar.invariant c.in_ok-put_next.ensures
