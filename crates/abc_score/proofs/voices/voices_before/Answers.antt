use Rattle.abc_events.proofs.Taken.{count_left}
use Rattle.abc_score.{specs.Voices.voice_before, proofs.Taken.mapped_taken}
use Rattle.abc_score.proofs.voices.voices_before.Goals as goal

pub loop-start-preserved : goal.loop-start-preserved
loop-start-preserved c = record {
  list =
      mapped_taken (voice_before c.args.header.now c.args.items.now) c.loop-start.voices.items
      c.in_ok-push.ensures.items
      c.in_ok-voice_before.ensures
      c.in-Some.ensures.steps.0 c.loop-start.invariant.list;
  count =
      count_left _ _ c.in-Some.start _ _ c.in-Some.ensures.steps.0 c.in-Some.ensures.steps.1
      c.loop-start.invariant.count;
}
