use Rattle.std.proofs.Common.{◌≡◌, drop}
use Rattle.mus_stems.specs.Ends.{lowest_in}
use Rattle.mus_stems.proofs.ends.lowest_along.Given as goal

abbrev pub invariant-loop-e : goal.invariant-loop-e
invariant-loop-e l = lowest_in l.first l.run ≡ lowest_in l.low (drop l.e-index l.run)
