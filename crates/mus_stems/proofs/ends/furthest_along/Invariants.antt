use Rattle.std.proofs.Common.{◌≡◌, drop}
use Rattle.mus_stems.specs.{Ends.beam_end, Stills.AllGood}
use Rattle.mus_stems.proofs.ends.furthest_along.Given as goal

abbrev pub invariant-loop-e : goal.invariant-loop-e
invariant-loop-e l = record {
  good : AllGood (drop l.e-index l.run);
  end : beam_end l.up l.first l.run ≡ beam_end l.up l.end (drop l.e-index l.run);
}
