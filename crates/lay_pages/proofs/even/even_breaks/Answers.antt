use Rattle.std.proofs.Common.{false, subst}
use Rattle.lay_breaks.specs.Answers.{IsCause}
use Rattle.lay_pages.specs.Even.{page_cost}
use Rattle.lay_pages.proofs.Pages.{some_legal}
use Rattle.lay_pages.proofs.even.even_breaks.Goals as goal

pub unreachable-requires : goal.unreachable-requires
unreachable-requires c =
    let cause = subst (IsCause (page_cost c.args.costs.high c.args.costs.heights) (λ b. false) c.args.groups)
    c.in-Err-NoWay.field-0-is c.in-Err-NoWay.ensures.no_way in
    some_legal c.args.costs.high c.args.groups c.args.costs.heights c.args.costs.within cause.0
