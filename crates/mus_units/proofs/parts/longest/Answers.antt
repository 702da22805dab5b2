use Rattle.mus_units.proofs.Longest.{longest_of}
use Rattle.mus_units.proofs.parts.longest.Goals as goal

pub returns : goal.returns
returns c =
    let base = c.in_ok-base.ensures in let dots = c.dots_within-dots.ensures in
    longest_of c.in_ok-base.base c.dots_within-dots.result c.args.left c.units_of_base.result
    c.units_of_base.ensures.value dots.few dots.within dots.longest base.2 base.1
