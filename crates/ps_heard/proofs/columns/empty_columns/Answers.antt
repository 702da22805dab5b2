use Rattle.ps_heard.proofs.FillingLaws.{empty_more}
use Rattle.ps_heard.proofs.columns.empty_columns.Goals as goal

pub loop-place-preserved : goal.loop-place-preserved
loop-place-preserved c =
    empty_more c.loop-place.leads c.args.places.now c.loop-place._place-index c.empty_column.result c.loop-place.out
    c.push.new.self _
    c.loop-place-test.true c.empty_column.ensures c.in_ok-push.ensures.ok c.loop-place.invariant
