use Rattle.std.proofs.{Common.arith, lemmas.Int.to_z-of_z}
use mir.Syntax.{w64}
use Rattle.ps_text.proofs.Signs.{widened}
use Rattle.ps_text.proofs.writing.is_page_mark.Goals as goal

pub returns-in-Glyph : goal.returns-in-Glyph
returns-in-Glyph c =
    let y = to_z-of_z w64 c.args.y c.ranges.y in let x = to_z-of_z w64 c.in-Glyph.x (record { sfits = omega arith }) in
    let dx = widened c.from.result c.in-Glyph.dx c.from.ensures (record { sfits = omega arith }) c.from.type_inv in
    let dy = widened c.from-in-Glyph.result c.in-Glyph.dy c.from-in-Glyph.ensures (record { sfits = omega arith })
    c.from-in-Glyph.type_inv in
    rw c.in-Glyph.is (rw (y, x, dx, dy) at c.is_placed.ensures)

pub returns-in-Words : goal.returns-in-Words
returns-in-Words c =
    let y = to_z-of_z w64 c.args.y c.ranges.y in let x = to_z-of_z w64 c.in-Words.x (record { sfits = omega arith }) in
    let dx = widened c.from-in-Words.result c.in-Words.dx c.from-in-Words.ensures (record { sfits = omega arith })
    c.from-in-Words.type_inv in
    let dy = widened c.from-in-Words-2.result c.in-Words.dy c.from-in-Words-2.ensures (record { sfits = omega arith })
    c.from-in-Words-2.type_inv in
    rw c.in-Words.is (rw (y, x, dx, dy, c.as_slice.ensures) at c.is_words_mark.ensures)

pub returns-in-Stem : goal.returns-in-Stem
returns-in-Stem c =
    let y = to_z-of_z w64 c.args.y c.ranges.y in let x = to_z-of_z w64 c.in-Stem.x (record { sfits = omega arith }) in
    let dx = widened c.from-in-Stem.result c.in-Stem.dx c.from-in-Stem.ensures (record { sfits = omega arith })
    c.from-in-Stem.type_inv in
    let from = widened c.from-in-Stem-2.result c.in-Stem.from c.from-in-Stem-2.ensures (record { sfits = omega arith })
    c.from-in-Stem-2.type_inv in
    let to = widened c.from-in-Stem-3.result c.in-Stem.to c.from-in-Stem-3.ensures (record { sfits = omega arith })
    c.from-in-Stem-3.type_inv in
    rw c.in-Stem.is (rw (y, x, dx, from, to) at c.is_stem.ensures)

pub returns-in-Beam : goal.returns-in-Beam
returns-in-Beam c =
    let y = to_z-of_z w64 c.args.y c.ranges.y in
    let x1 = to_z-of_z w64 c.in-Beam.x1 (record { sfits = omega arith }) in
    let x2 = to_z-of_z w64 c.in-Beam.x2 (record { sfits = omega arith }) in
    let from = widened c.from-in-Beam.result c.in-Beam.from c.from-in-Beam.ensures (record { sfits = omega arith })
    c.from-in-Beam.type_inv in
    let to = widened c.from-in-Beam-2.result c.in-Beam.to c.from-in-Beam-2.ensures (record { sfits = omega arith })
    c.from-in-Beam-2.type_inv in
    rw c.in-Beam.is (rw (y, x1, x2, from, to) at c.is_span.ensures)

pub returns-in-Arc : goal.returns-in-Arc
returns-in-Arc c =
    let y = to_z-of_z w64 c.args.y c.ranges.y in
    let x1 = to_z-of_z w64 c.in-Arc.x1 (record { sfits = omega arith }) in
    let x2 = to_z-of_z w64 c.in-Arc.x2 (record { sfits = omega arith }) in
    let from = widened c.from-in-Arc.result c.in-Arc.from c.from-in-Arc.ensures (record { sfits = omega arith })
    c.from-in-Arc.type_inv in
    let to = widened c.from-in-Arc-2.result c.in-Arc.to c.from-in-Arc-2.ensures (record { sfits = omega arith })
    c.from-in-Arc-2.type_inv in
    let bulge = widened c.from-in-Arc-3.result c.in-Arc.bulge c.from-in-Arc-3.ensures (record { sfits = omega arith })
    c.from-in-Arc-3.type_inv in
    rw c.in-Arc.is (rw (y, x1, x2, from, to, bulge) at c.is_span-in-Arc.ensures)
