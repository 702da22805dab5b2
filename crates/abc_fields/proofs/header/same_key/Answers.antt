use Rattle.{std.proofs.Common.{subst, sym}, mus_units.specs.Good.{AreGoodSigns}}
use Rattle.abc_fields.proofs.header.same_key.Goals as goal

pub returns-clause-good : goal.returns-clause-good
returns-clause-good c =
    subst AreGoodSigns (sym c.in_ok-signs.ensures) (subst AreGoodSigns (sym c.as_slice.ensures) c.requires)
