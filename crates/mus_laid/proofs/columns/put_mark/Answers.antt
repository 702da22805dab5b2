use Rattle.{std.proofs.Common.{arith, sym}, mus_laid.proofs.ByColumns.{put_far}}
use Rattle.mus_laid.proofs.columns.put_mark.Goals as goal

pub returns-else-place-len : goal.returns-else-place-len
returns-else-place-len c =
    put_far c.in-Some.rank c.args.laid c.args.columns.now (sym c.in-Some.ensures)
    (omega (arith, c.len.ensures, c.if-place-len.false))
