use Rattle.std.proofs.lemmas.Int.{to_z-of_z}
use mir.Syntax.{w64}
use Rattle.ps_text.proofs.Ranges.{placed_of}
use Rattle.ps_text.proofs.range.is_placed.Goals as goal

pub returns-then-are_page_numbers : goal.returns-then-are_page_numbers
returns-then-are_page_numbers c =
    let y = to_z-of_z w64 c.args.y c.ranges.y in
    let x = to_z-of_z w64 c.args.x c.ranges.x in
    let dx = to_z-of_z w64 c.args.dx c.ranges.dx in
    let dy = to_z-of_z w64 c.args.dy c.ranges.dy in
    placed_of c.args.y c.args.x c.args.dx c.args.dy _ _ (rw (y, x) at c.are_page_numbers.ensures)
    (rw (dx, dy) at c.are_offsets.ensures) c.if-are_page_numbers.true
