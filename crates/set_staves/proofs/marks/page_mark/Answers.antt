use Rattle.{std.proofs.{Common.arith, Common.to_z-of_z, lemmas.Int.ints}, set_staves.proofs.OnPage.{spans}}
use Rattle.set_staves.proofs.marks.page_mark.Goals as goal

pub returns-in-Beam-clause-good : goal.returns-in-Beam-clause-good
returns-in-Beam-clause-good c =
    let ranked = rw c.in-Beam.is at c.requires.ranked in
    spans c.args.at.now c.args.y _ _ _ _ _ c.in-Beam.first c.in-Beam.last c.requires.height c.requires.numbers
    c.requires.rise ranked.0 ranked.1
    (search (arith, ints, to_z-of_z)) (search (arith, ints, to_z-of_z)) (search (arith, ints)) (search (arith, ints))
    (search (arith, ints))

pub returns-in-Arc-clause-good : goal.returns-in-Arc-clause-good
returns-in-Arc-clause-good c =
    let ranked = rw c.in-Arc.is at c.requires.ranked in
    spans c.args.at.now c.args.y _ _ _ _ _ c.in-Arc.first c.in-Arc.last c.requires.height c.requires.numbers
    c.requires.rise ranked.0 ranked.1
    (search (arith, ints, to_z-of_z)) (search (arith, ints, to_z-of_z)) (search (arith, ints)) (search (arith, ints))
    (search (arith, ints))
