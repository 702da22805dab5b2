use Rattle.std.{proofs.Common.{subst, sym}, specs.Prelude.IfSome}
use Rattle.mus_units.specs.Good.{IsGoodMeter}
use Rattle.abc_fields.proofs.HeaderLaws.{last_meter-good}
use Rattle.abc_fields.proofs.header.good_meter.Goals as goal

pub returns-clause-good : goal.returns-clause-good
returns-clause-good c =
    subst (λ o. IfSome o (λ m. IsGoodMeter m)) (sym c.last_meter.ensures) (last_meter-good c.args.fields.now c.requires)
