use Rattle.std.proofs.Common.{◌≡◌, drop}
use Rattle.mus_stems.specs.Ends.{highest_in}
use Rattle.mus_stems.proofs.ends.highest_along.Given as goal

abbrev pub invariant-loop-e : goal.invariant-loop-e
invariant-loop-e l = highest_in l.first l.run ≡ highest_in l.high (drop l.e-index l.run)
