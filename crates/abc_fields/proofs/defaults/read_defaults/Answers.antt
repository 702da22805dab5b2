use Rattle.std.proofs.{Common.{subst, sym, ◌∙◌}, lemmas.Result.IfOk-weaker}
use Rattle.abc_fields.{specs.FileHeader.AreDefaultsBy, proofs.FileHeaderLaws.{defaults-are, defaults-one}}
use Rattle.abc_fields.proofs.defaults.read_defaults.Goals as goal

pub returns-clause-states : goal.returns-clause-states
returns-clause-states c =
    let lines = c.args.book.now.header in
    IfOk-weaker c.defaults_of.result _ (AreDefaultsBy lines)
    (λ _ h. subst (AreDefaultsBy lines) (sym h) (defaults-are lines))
    c.defaults_of.ensures.value

pub returns-clause-only : goal.returns-clause-only
returns-clause-only c =
    let lines = c.args.book.now.header in
    IfOk-weaker c.defaults_of.result _ _ (λ _ h defaults are. defaults-one lines defaults are ∙ sym h)
    c.defaults_of.ensures.value
