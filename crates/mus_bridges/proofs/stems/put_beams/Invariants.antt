use Rattle.std.proofs.Common.{◌≡◌, ◌++◌, length}
use Rattle.mus_bridges.specs.Beams.{beams_from}
use Rattle.mus_bridges.proofs.stems.put_beams.Given as goal

abbrev pub invariant-loop-rest : goal.invariant-loop-rest
invariant-loop-rest l = l.out ++ beams_from l.group l.flags l.rest ≡ l.fn.out ++ beams_from 0 0 l.stems

abbrev pub decreases-loop-rest : goal.decreases-loop-rest
decreases-loop-rest l = length l.rest
