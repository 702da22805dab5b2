use Rattle.set_tune.specs.Terms.{terms_of}
use Rattle.std.proofs.Common.{◌≡◌, ◌+◌, ◌++◌, [], length}
use Rattle.std.specs.Prelude.{All}
use Rattle.abc_lines.specs.Good.{IsGoodTune}
use Rattle.set_book.specs.Outcomes.{AreOutcomes}
use Rattle.abcps.proofs.Batches.{IsCounted, IsSoFar}
use Rattle.abcps.proofs.Sent.{stream}
use Rattle.abcps.proofs.printing.print_tunes.Given as goal

-- the tunes before the batch are written, the batch is set, and no tune is left after an empty one
abbrev pub invariant-batches : goal.invariant-batches
invariant-batches g l = record {
  way :
      IsSoFar (terms_of l.setting.defaults.now l.setting.paper.now l.setting.how) l.plan l.tunes (l.batch ++ l.rest)
      (stream (g.O.Sink.taken l.fn.output) (g.O.Sink.taken l.output) (g.O.Sink.faults l.fn.output)
      (g.O.Sink.faults l.output))
      l.run;
  set : AreOutcomes (terms_of l.setting.defaults.now l.setting.paper.now l.setting.how) l.batch l.outcomes;
  good : All IsGoodTune l.rest;
  counted : All IsCounted l.batch;
  counted_rest : All IsCounted l.rest;
  last : length l.batch ≡ 0 → l.rest ≡ [];
}

abbrev pub decreases-batches : goal.decreases-batches
decreases-batches g l = length l.batch + length l.rest
