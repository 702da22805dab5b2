use Rattle.std.proofs.Common.{subst, sym}
use Rattle.mus_units.specs.Good.{AreGoodSigns}
use Rattle.mus_pitch.proofs.SignLaws.{signs_of_good}
use Rattle.mus_pitch.proofs.signs.key_of.Goals as goal

pub returns-clause-good : goal.returns-clause-good
returns-clause-good c = subst AreGoodSigns (sym c.in_ok-signs.ensures) (signs_of_good _)
