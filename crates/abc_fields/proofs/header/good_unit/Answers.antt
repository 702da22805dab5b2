use Rattle.{std.proofs.Common.{subst, sym}, abc_fields.{specs.Good.GoodUnitIn, proofs.HeaderLaws.last_unit-good}}
use Rattle.abc_fields.proofs.header.good_unit.Goals as goal

pub returns-clause-good : goal.returns-clause-good
returns-clause-good c = subst GoodUnitIn (sym c.last_unit.ensures) (last_unit-good c.args.fields.now c.requires)
