use Rattle.std.{proofs.Common.{◌∙◌, Some, None, sym, ap}, specs.Option.option_copied}
use Rattle.set_lists.proofs.Finding.{badness_is}
use Rattle.set_lists.proofs.systems.badness_among.Goals as goal

pub returns-in-Some : goal.returns-in-Some
returns-in-Some c =
    badness_is c.args.spans.now c.args.a c.args.b (Some c.in-Some.span.now)
    (ap (λ o. option_copied o) (sym c.in-Some.is) ∙ c.span_between.ensures)

pub returns-in-None : goal.returns-in-None
returns-in-None c =
    badness_is c.args.spans.now c.args.a c.args.b None
    (ap (λ o. option_copied o) (sym c.in-None.is) ∙ c.span_between.ensures)
