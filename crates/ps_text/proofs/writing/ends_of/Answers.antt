use Rattle.std.proofs.{Common.refl, lemmas.Int.to_z-of_z}
use mir.Syntax.{w64}
use Rattle.ps_text.specs.Line.{ends_of}
use Rattle.ps_text.proofs.writing.ends_of.Goals as goal

pub returns : goal.returns
unfolding ends_of
returns c =
    let y = to_z-of_z w64 c.args.y c.ranges.y in
    let x1 = to_z-of_z w64 c.args.x1 c.ranges.x1 in
    let x2 = to_z-of_z w64 c.args.x2 c.ranges.x2 in
    let from = to_z-of_z w64 c.args.from c.ranges.from in
    let to = to_z-of_z w64 c.args.to c.ranges.to in
    let rise = to_z-of_z w64 c.args.rise c.ranges.rise in
    let left = rw (y, from) at c.moved-left.ensures in
    let right = rw (y, to) at c.moved-right.ensures in
    let l = to_z-of_z w64 c.moved-left.result (record { sfits = c.moved-left.type_inv }) in
    let r = to_z-of_z w64 c.moved-right.result (record { sfits = c.moved-right.type_inv }) in
    let a = to_z-of_z w64 c.moved.result (record { sfits = c.moved.type_inv }) in
    let b = to_z-of_z w64 c.moved-2.result (record { sfits = c.moved-2.type_inv }) in
    let left_above = rw (l, rise, left) at c.moved.ensures in
    let right_above = rw (r, rise, right) at c.moved-2.ensures in
    rw (x1, x2, l, a, r, b, left_above, right_above, left, right) refl
