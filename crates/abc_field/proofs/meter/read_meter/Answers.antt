use Rattle.std.proofs.Common.{subst, sym, IfSome}
use Rattle.mus_units.specs.Good.{IsGoodMeter}
use Rattle.abc_field.proofs.GoodLaws.{meter_good}
use Rattle.abc_field.proofs.meter.read_meter.Goals as goal

pub returns-clause-good : goal.returns-clause-good
returns-clause-good c = subst (λ o. IfSome o (λ m. IsGoodMeter m)) (sym c.meter_of.ensures) (meter_good c.args.text.now)
