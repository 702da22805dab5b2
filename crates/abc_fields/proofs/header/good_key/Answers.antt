use Rattle.std.{proofs.Common.{subst, sym}, specs.Prelude.IfSome}
use Rattle.abc_field.specs.Keys.{IsGoodKeyText}
use Rattle.abc_fields.proofs.HeaderLaws.{last_key-good, good_copied}
use Rattle.abc_fields.proofs.header.good_key.Goals as goal

pub returns-clause-good : goal.returns-clause-good
returns-clause-good c =
    good_copied c.last_key.result
    (subst (λ o. IfSome o (λ k. IsGoodKeyText k)) (sym c.last_key.ensures) (last_key-good c.args.fields.now c.requires))
