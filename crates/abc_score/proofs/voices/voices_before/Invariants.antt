use Rattle.std.{proofs.Common.{◌≡◌, ◌++◌, map, length}, specs.Vec.Iter.{into_iter_items, into_iter_len}}
use Rattle.abc_score.specs.Voices.{voice_before}
use Rattle.abc_score.proofs.voices.voices_before.Given as goal

abbrev pub invariant-loop-start : goal.invariant-loop-start
invariant-loop-start l = record {
  list : l.voices.items ++ map (voice_before l.header l.items) (into_iter_items l.start-iterator)
      ≡ map (voice_before l.header l.items) (into_iter_items l.initial.start-iterator);
  count : into_iter_len l.start-iterator ≡ length (into_iter_items l.start-iterator);
}
