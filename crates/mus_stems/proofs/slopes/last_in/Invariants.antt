use Rattle.std.proofs.Common.{◌≡◌, drop}
use Rattle.mus_stems.specs.Slope.{last_input}
use Rattle.mus_stems.proofs.slopes.last_in.Given as goal

abbrev pub invariant-loop-a : goal.invariant-loop-a
invariant-loop-a l = last_input l.fn.first l.others ≡ last_input l.last (drop l.a-index l.others)
