use Rattle.std.proofs.lemmas.Int.{to_z-of_z}
use mir.Syntax.{w64}
use Rattle.ps_text.proofs.Ranges.{end_of}
use Rattle.ps_text.proofs.range.is_end.Goals as goal

pub returns-then-is_offset : goal.returns-then-is_offset
returns-then-is_offset c =
    let y = to_z-of_z w64 c.args.y c.ranges.y in
    let height = to_z-of_z w64 c.args.height c.ranges.height in
    let rise = to_z-of_z w64 c.args.rise c.ranges.rise in
    end_of c.args.y c.args.height c.args.rise _ _ (rw height at c.is_offset.ensures)
    (rw (y, height, rise) at c.are_points.ensures) c.if-is_offset.true
