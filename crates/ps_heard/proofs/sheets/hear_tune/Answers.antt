use Rattle.ps_heard.{specs.Tunes.staff_heard, proofs.EarLaws.list_more}
use Rattle.ps_heard.proofs.sheets.hear_tune.Goals as goal

pub loop-k-preserved : goal.loop-k-preserved
loop-k-preserved c = record {
  end = c.loop-k.invariant.end;
  lists =
      list_more (staff_heard c.args.spread c.args.systems.now) c.loop-k.k c.most_staves-k-end.result c.loop-k.out
      c.push.new.self _ c.in_ok-hear_staff.field-0
      c.loop-k-test.true c.in_ok-hear_staff.ensures c.in_ok-push.ensures.ok c.loop-k.invariant.lists;
}
