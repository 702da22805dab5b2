use Rattle.{std.proofs.Common.{subst, sym}, mus_units.specs.Good.{AreGoodSigns}, mus_pitch.proofs.SignLaws.{laid_good}}
use Rattle.mus_pitch.proofs.signs.with_signs.Goals as goal

pub returns-clause-good : goal.returns-clause-good
returns-clause-good c =
    subst AreGoodSigns (sym c.in_ok-signs.ensures)
    (laid_good c.as_slice.result.now c.args.adds.now (subst AreGoodSigns (sym c.as_slice.ensures) c.requires))
