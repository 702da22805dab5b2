use Rattle.std.proofs.{Common.arith, lemmas.Int.ints, lemmas.Int.to_z-of_z}
use mir.Syntax.{w64}
use Rattle.ps_read.proofs.Stepping.{mark_read}
use Rattle.ps_read.proofs.systems.read_mark.Goals as goal

pub returns : goal.returns
returns c =
    let y = to_z-of_z w64 c.args.staff.now.y (search (arith, ints)) in
    mark_read c.args.staff.now.y c.args.raw.now c.read_op.result (rw y at c.read_op.ensures.mark)
    (rw y at c.read_op.ensures.one)
