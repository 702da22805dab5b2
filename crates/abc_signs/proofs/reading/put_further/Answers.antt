use Rattle.abc_signs.proofs.Rests.{rest_pushed}
use Rattle.abc_signs.proofs.reading.put_further.Goals as goal

pub loop-i-preserved : goal.loop-i-preserved
loop-i-preserved c =
    rest_pushed c.args.step.now.state.now c.args.step.now.at.now c.args.seen c.args.measure c.loop-i.i c.from.result
    c.args.count c.rest_written-written.result c.nothing.result c.loop-i.out c.push.new.self _ c.loop-i-test.true
    c.from.ensures c.rest_written-written.ensures c.nothing.ensures c.in_ok-push.ensures.ok c.loop-i.invariant
