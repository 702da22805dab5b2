use Rattle.abc_signs.proofs.Drawn.{walk_drawn}
use Rattle.abc_signs.proofs.reading.signs.Goals as goal

pub returns-clause-drawn : goal.returns-clause-drawn
returns-clause-drawn c =
    walk_drawn c.args.first.now c.args.steps.now c.loop-i.i c.loop-i.out c.loop-i-test.false c.loop-i.invariant.signs
