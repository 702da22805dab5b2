use Rattle.set_tune.specs.Terms.{terms_of}
use Rattle.std.proofs.Common.{length}
use Rattle.std.specs.Prelude.{All}
use Rattle.abc_lines.specs.Good.{IsGoodTune}
use Rattle.abcps.proofs.Batches.{IsCounted}
use Rattle.abcps.proofs.Gathered.{IsGathering}
use Rattle.abcps.proofs.printing.gather_tunes.Given as goal

abbrev pub invariant-batches : goal.invariant-batches
invariant-batches g l = record {
  gathering : IsGathering (terms_of l.setting.defaults.now l.setting.paper.now l.setting.how) l.tunes l.rest l.blocks;
  good : All IsGoodTune l.rest;
  counted : All IsCounted l.rest;
}

abbrev pub decreases-batches : goal.decreases-batches
decreases-batches g l = length l.rest
