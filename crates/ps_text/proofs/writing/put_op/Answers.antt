use Rattle.std.proofs.{Common.{append_assoc, arith}, lemmas.Int.to_z-of_z}
use mir.Syntax.{w64}
use Rattle.ps_text.specs.Line.{beam_line, arc_line, ends_of}
use Rattle.ps_text.proofs.Signs.{widened}
use Rattle.ps_text.proofs.writing.put_op.Goals as goal

pub returns-in-Beam : goal.returns-in-Beam
unfolding beam_line ends_of
returns-in-Beam c =
    let y = to_z-of_z w64 c.args.end.now.y (record { sfits = omega arith }) in
    let x1 = to_z-of_z w64 c.in-Beam.x1 (record { sfits = omega arith }) in
    let x2 = to_z-of_z w64 c.in-Beam.x2 (record { sfits = omega arith }) in
    let from = widened c.from-from.result c.in-Beam.from c.from-from.ensures (record { sfits = omega arith })
    c.from-from.type_inv in
    let to = widened c.from-in-Beam.result c.in-Beam.to c.from-in-Beam.ensures (record { sfits = omega arith })
    c.from-in-Beam.type_inv in
    let ends = rw (y, x1, x2, from, to) at c.ends_of-ends.ensures in
    rw c.in-Beam.is (rw (ends, append_assoc) at c.put_beam.ensures)

pub returns-in-Arc : goal.returns-in-Arc
unfolding arc_line ends_of
returns-in-Arc c =
    let y = to_z-of_z w64 c.args.end.now.y (record { sfits = omega arith }) in
    let x1 = to_z-of_z w64 c.in-Arc.x1 (record { sfits = omega arith }) in
    let x2 = to_z-of_z w64 c.in-Arc.x2 (record { sfits = omega arith }) in
    let from = widened c.from-from-in-Arc.result c.in-Arc.from c.from-from-in-Arc.ensures
    (record { sfits = omega arith }) c.from-from-in-Arc.type_inv in
    let to = widened c.from-in-Arc.result c.in-Arc.to c.from-in-Arc.ensures (record { sfits = omega arith })
    c.from-in-Arc.type_inv in
    let bulge = widened c.from-in-Arc-2.result c.in-Arc.bulge c.from-in-Arc-2.ensures (record { sfits = omega arith })
    c.from-in-Arc-2.type_inv in
    let ends = rw (y, x1, x2, from, to, bulge) at c.ends_of-ends-in-Arc.ensures in
    rw c.in-Arc.is (rw (ends, append_assoc) at c.put_arc.ensures)
