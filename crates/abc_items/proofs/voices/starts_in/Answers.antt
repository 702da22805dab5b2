use Rattle.std.proofs.Common.{arith, length, ◌<◌}
use Rattle.abc_items.{specs.Voices.start_of, proofs.Laws.mapped-more}
use Rattle.abc_items.proofs.voices.starts_in.Goals as goal

pub loop-id-preserved : goal.loop-id-preserved
loop-id-preserved c =
    let inside : c.loop-id.id-index < length c.args.ids.now = omega arith in
    mapped-more (start_of c.args.header.now c.args.items.now) c.args.ids.now c.loop-id.id-index c.id-item.result
    c.loop-id.starts c.push.new.self c.in_ok-start_of.field-0
    inside c.id-item.is c.in_ok-push.ensures.ok c.in_ok-start_of.ensures c.loop-id.invariant
