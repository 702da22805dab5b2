use Rattle.std.proofs.lemmas.Int.{to_z-of_z}
use mir.Syntax.{w64}
use Rattle.ps_text.proofs.Ranges.{both_of}
use Rattle.ps_text.proofs.range.are_ends.Goals as goal

pub returns-then-is_end : goal.returns-then-is_end
returns-then-is_end c =
    let y = to_z-of_z w64 c.args.y c.ranges.y in
    let from = to_z-of_z w64 c.args.from c.ranges.from in
    let to = to_z-of_z w64 c.args.to c.ranges.to in
    let rise = to_z-of_z w64 c.args.rise c.ranges.rise in
    both_of _ _ (rw (y, from, rise) at c.is_end.ensures) (rw (y, to, rise) at c.is_end-then-is_end.ensures)
    c.if-is_end.true
