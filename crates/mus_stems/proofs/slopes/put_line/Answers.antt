use Rattle.{std.proofs.{Common.arith, lemmas.Int.ints}, mus_stems.proofs.SlopeLaws.{base_near}}
use Rattle.mus_stems.proofs.slopes.put_line.Goals as goal

pub put_ends-requires-clause-base : goal.put_ends-requires-clause-base
put_ends-requires-clause-base c =
    let n = base_near c.args.line.now c.args.first.now c.args.others.now c.args.beam.now c.base_of-base.result
    c.base_of-base.ensures c.requires.beam c.requires.line c.requires.over in
    (omega (arith, ints, n.0, n.1), omega (arith, ints, n.0, n.1))
