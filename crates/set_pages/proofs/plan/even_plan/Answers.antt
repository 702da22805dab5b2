use Rattle.{std.proofs.Common.{ap}, set_pages.proofs.Whole.{even_fits}}
use Rattle.set_pages.proofs.plan.even_plan.Goals as goal

pub unreachable-requires : goal.unreachable-requires
unreachable-requires c =
    let high = ap (λ p. p.1) c.body_of-high.ensures in
    even_fits c.args.paper.now c.body_of-high.result.1 c.args.blocks.now c.in-Err-TooTall.field-0-0 high
    c.requires.blocks (rw c.in-Err-TooTall.field-0-is at c.in-Err-TooTall.ensures.tall)
