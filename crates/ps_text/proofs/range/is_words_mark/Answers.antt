use Rattle.std.proofs.lemmas.Int.{to_z-of_z}
use mir.Syntax.{w64}
use Rattle.ps_text.proofs.Ranges.{both_of}
use Rattle.ps_text.proofs.range.is_words_mark.Goals as goal

pub returns-then-is_placed : goal.returns-then-is_placed
returns-then-is_placed c =
    let y = to_z-of_z w64 c.args.y c.ranges.y in
    let x = to_z-of_z w64 c.args.x c.ranges.x in
    let dx = to_z-of_z w64 c.args.dx c.ranges.dx in
    let dy = to_z-of_z w64 c.args.dy c.ranges.dy in
    both_of _ _ (rw (y, x, dx, dy) at c.is_placed.ensures) c.can_show.ensures c.if-is_placed.true
