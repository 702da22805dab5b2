use Rattle.std.proofs.Common.{subst, sym, IfSome}
use Rattle.mus_units.specs.Good.{IsGoodUnit}
use Rattle.abc_field.proofs.GoodLaws.{unit_good}
use Rattle.abc_field.proofs.meter.read_unit.Goals as goal

pub returns-clause-good : goal.returns-clause-good
returns-clause-good c = subst (λ o. IfSome o (λ u. IsGoodUnit u)) (sym c.unit_of.ensures) (unit_good c.args.text.now)
