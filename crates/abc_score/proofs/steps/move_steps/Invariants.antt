use Rattle.std.proofs.Common.{◌≡◌, map, length}
use Rattle.std.specs.Vec.Iter.{into_iter_items, into_iter_len}
use Rattle.abc_score.specs.Steps.{with_items}
use Rattle.abc_score.specs.Voices.{AreDistinctIds, read_ids}
use Rattle.abc_score.proofs.steps.move_steps.Given as goal

abbrev pub invariant-loop-item : goal.invariant-loop-item
invariant-loop-item l = record {
  voices : map (with_items l.current (into_iter_items l.item-iterator)) l.voices
      ≡ map (with_items l.fn.unnamed (into_iter_items l.initial.item-iterator)) l.fn.voices;
  apart : AreDistinctIds (read_ids l.voices);
  count : into_iter_len l.item-iterator ≡ length (into_iter_items l.item-iterator);
}
