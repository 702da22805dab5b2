use Rattle.abc_steps.specs.Looks.{broken_after, is_some_sound, nearest_event, to_event}
use Rattle.abc_steps.proofs.Between.{none_between}
use Rattle.abc_steps.proofs.looks.broken_after.Goals as goal

pub returns-then-is_empty : goal.returns-then-is_empty
unfolding broken_after
returns-then-is_empty c =
    none_between (is_some_sound (nearest_event c.args.following.now)) c.is_empty.result c.to_event-between.result.now
    (to_event c.args.following.now) c.to_event-between.ensures.value c.is_empty.ensures c.if-is_empty.true
