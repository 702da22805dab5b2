use Rattle.abc_events.proofs.BarRows.{bars_pushed}
use Rattle.abc_events.proofs.bars.bars_of.Goals as goal

pub loop-k-preserved : goal.loop-k-preserved
loop-k-preserved c =
    bars_pushed c.args.steps.now c.args.n c.loop-k.k c.in_ok-places.places.own c.in_ok-places.places.all.items
    c.as_slice.result.now c.bar_of.result c.loop-k.bars c.push.new.self c.loop-k-test.true c.as_slice.ensures.value
    c.in_ok-places.ensures.own c.in_ok-places.ensures.value c.bar_of.ensures c.loop-k.invariant c.in_ok-push.ensures.ok
