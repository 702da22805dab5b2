use Rattle.std.proofs.lemmas.Int.{to_z-of_z}
use mir.Syntax.{w64}
use Rattle.ps_text.proofs.range.are_points.Goals as goal

pub returns : goal.returns
returns c =
    let y = to_z-of_z w64 c.args.y c.ranges.y in
    let height = to_z-of_z w64 c.args.height c.ranges.height in
    let rise = to_z-of_z w64 c.args.rise c.ranges.rise in
    let point = rw (y, height) at c.moved-point.ensures in
    let p = to_z-of_z w64 c.moved-point.result (record { sfits = c.moved-point.type_inv }) in
    let a = to_z-of_z w64 c.moved-above.result (record { sfits = c.moved-above.type_inv }) in
    let above = rw (p, rise, point) at c.moved-above.ensures in
    rw (← above, ← point) (rw (p, a) at c.are_page_numbers.ensures)
