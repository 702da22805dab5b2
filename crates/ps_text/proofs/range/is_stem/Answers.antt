use Rattle.std.proofs.lemmas.Int.{to_z-of_z}
use mir.Syntax.{w64}
use Rattle.ps_text.proofs.Ranges.{stem_of}
use Rattle.ps_text.proofs.range.is_stem.Goals as goal

pub returns-then-is_placed : goal.returns-then-is_placed
returns-then-is_placed c =
    let y = to_z-of_z w64 c.args.y c.ranges.y in
    let x = to_z-of_z w64 c.args.x c.ranges.x in
    let dx = to_z-of_z w64 c.args.dx c.ranges.dx in
    let from = to_z-of_z w64 c.args.from c.ranges.from in
    let to = to_z-of_z w64 c.args.to c.ranges.to in
    stem_of c.args.y c.args.x c.args.dx c.args.from c.args.to _ _ (rw (y, x, dx, from) at c.is_placed.ensures)
    (rw to at c.is_offset.ensures) c.if-is_placed.true
