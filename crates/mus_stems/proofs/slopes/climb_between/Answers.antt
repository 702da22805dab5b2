use Rattle.std.proofs.{Common.arith, lemmas.Int.ints, lemmas.Int.clamps}
use Rattle.mus_stems.proofs.slopes.climb_between.Goals as goal

pub returns : goal.returns
returns c = omega (arith, ints, clamps, c.max.ensures.value, c.min.ensures.value, c.from.ensures, c.from-2.ensures)
