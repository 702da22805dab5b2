use Rattle.std.proofs.Common.{◌≡◌, drop}
use Rattle.mus_ink.specs.Graces.{greatest_end}
use Rattle.mus_ink.proofs.graces.greatest_end.Given as goal

abbrev pub invariant-loop-grace : goal.invariant-loop-grace
invariant-loop-grace l = greatest_end l.clef l.end (drop l.grace-index l.graces) ≡ greatest_end l.clef l.first l.graces
