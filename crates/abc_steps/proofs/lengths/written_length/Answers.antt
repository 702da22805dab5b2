use Rattle.abc_steps.proofs.Bounds.{good_length}
use Rattle.abc_steps.proofs.lengths.written_length.Goals as goal

pub returns-clause-length : goal.returns-clause-length
returns-clause-length c =
    rw (c.num.ensures, c.den.ensures)
    (good_length c.args.unit c.args.s.now c.left_factor-left.result c.right_factor-right.result c.requires.unit
    c.requires.good c.left_factor-left.ensures.factor c.right_factor-right.ensures.factor)
