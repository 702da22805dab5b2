use Rattle.std.proofs.Common.{reverse}
use Rattle.abc_steps.specs.Looks.{broken_before, is_some_sound, nearest_event, since_event}
use Rattle.abc_steps.proofs.Between.{none_between}
use Rattle.abc_steps.proofs.looks.broken_before.Goals as goal

pub returns-then-is_empty : goal.returns-then-is_empty
unfolding broken_before
returns-then-is_empty c =
    none_between (is_some_sound (nearest_event (reverse c.args.before.now))) c.is_empty.result
    c.since_event-between.result.now (since_event (reverse c.args.before.now)) c.since_event-between.ensures.value
    c.is_empty.ensures c.if-is_empty.true
