use Rattle.std.proofs.Common.{◌≡◌, ◌∷◌, [], rules}
use Rattle.lay_rows.specs.Tables.{rows_more}
use Rattle.layout_tests.proofs.meetings.MeetingRowsRowMaker.rows_between.Goals as goal

pub loop-a-preserved : goal.loop-a-preserved
loop-a-preserved c =
    rw (c.in_ok-push-2.ensures.ok)
    (rows_more (λ a row. row ≡ a ∷ []) c.args.from c.loop-a.a c.loop-a.rows c.push.new.self c.loop-a.auto.a
    c.loop-a.invariant (search rules))
