use Rattle.std.proofs.Common.{◌≡◌, drop}
use Rattle.mus_transpose.specs.Moved.{are_in_reach}
use Rattle.mus_transpose.proofs.reach.are_in_reach.Given as goal

abbrev pub invariant-loop-f : goal.invariant-loop-f
invariant-loop-f l = are_in_reach l.clef (drop l.f-index l.flats) ≡ are_in_reach l.fn.before l.flats
