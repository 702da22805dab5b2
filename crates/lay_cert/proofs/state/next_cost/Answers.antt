use Rattle.std.proofs.Common.{ap, ◌∙◌, arith, length}
use Rattle.lay_cert.{specs.Indexed.looked_up, proofs.Kept.listed_past, proofs.Kept.at_within, proofs.Indexing.agrees}
use Rattle.lay_cert.proofs.state.next_cost.Goals as goal

pub returns-then-bar-choosing : goal.returns-then-bar-choosing
returns-then-bar-choosing c =
    listed_past c.args.choosing.now.bars c.args.choosing.now.at c.args.bar c.args.choosing.now.spans c.requires.spans
    c.if-bar-choosing.true

pub cost_of-requires-clause-within : goal.cost_of-requires-clause-within
cost_of-requires-clause-within c =
    let n = ap length c.as_slice-2.ensures.value in
    let l = at_within c.args.choosing.now c.requires in
    let k = c.requires.one_each in
    omega (arith, n, l, k)

pub returns : goal.returns
returns c =
    c.cost_of.ensures
    ∙ (ap (λ ss. looked_up ss c.as_slice-2.result.now c.args.choosing.now.at c.args.bar) c.as_slice.ensures
    ∙ (ap (λ fs. looked_up c.args.choosing.now.spans fs c.args.choosing.now.at c.args.bar) c.as_slice-2.ensures.value
    ∙ agrees c.args.choosing.now.spans c.args.choosing.now.firsts.items c.requires.indexed c.args.choosing.now.at
    c.args.bar))
