use Rattle.std.proofs.Common.{subst}
use Rattle.abc_fields.specs.Defaults.{defaults_of}
use Rattle.set_tune.specs.Terms.{terms_by, terms_of}
use Rattle.set_book.specs.Outcomes.{AreOutcomes}
use Rattle.set_book.proofs.setting.set_all.Goals as goal

pub returns : goal.returns
returns g c =
    let outcomes = c.in_ok-outcomes.outcomes in
    let tunes = c.as_slice.result.now in
    let paper = c.args.paper.now in
    subst (λ all. AreOutcomes (terms_of (defaults_of c.args.book.now.header) paper c.args.how) all outcomes)
    c.as_slice.ensures
    (subst (λ defaults. AreOutcomes (terms_of defaults paper c.args.how) tunes outcomes) c.in_ok-defaults.ensures.value
    (subst (λ manner. AreOutcomes (terms_by c.in_ok-defaults.defaults paper manner) tunes outcomes) c.with_jobs.ensures
    c.in_ok-outcomes.ensures))
