use Rattle.std.proofs.Common.{◌≡◌, ◌++◌, length}
use Rattle.std.specs.List.{All}
use Rattle.std.specs.Prelude.{flat_map}
use Rattle.std.specs.Vec.Iter.{into_iter_items, into_iter_len}
use Rattle.abc_score.specs.Faults.{voice_faults, voice_weights}
use Rattle.abc_score.specs.Judged.{AreJudged, HasKept, reads_of}
use Rattle.abc_score.specs.Voices.{IsGoodRead}
use Rattle.abc_score.proofs.faults.judge_voices.Given as goal

abbrev pub invariant-loop-read : goal.invariant-loop-read
invariant-loop-read l = record {
  judged :
      let done = reads_of l.judged in
      AreJudged (flat_map voice_faults done) (flat_map voice_weights done) l.fault l.fn.weights l.weights;
  reads : reads_of l.judged ++ into_iter_items l.read-iterator ≡ into_iter_items l.initial.read-iterator;
  kept : All HasKept l.judged;
  good : All IsGoodRead (into_iter_items l.read-iterator);
  count : into_iter_len l.read-iterator ≡ length (into_iter_items l.read-iterator);
}
