use Rattle.std.proofs.Common.{ap, ◌∙◌}
use Rattle.ps_heard.{specs.Ear.hear_columns, specs.Tunes.heard_staff_columns, proofs.EarLaws.system_more}
use Rattle.ps_heard.proofs.sheets.hear_systems.Goals as goal

pub loop-system-preserved : goal.loop-system-preserved
loop-system-preserved c =
    system_more c.args.spread (heard_staff_columns c.args.k) c.args.systems.now c.loop-system.system-index
    c.system-item.result c.loop-system.ear c.hear_system.new.ear _
    c.loop-system-test.true c.system-item.is
    (c.in_ok-hear_system.ensures
    ∙ ap (λ s. hear_columns c.args.spread c.loop-system.ear (heard_staff_columns c.args.k s)) c.system.view_is)
    c.loop-system.invariant
