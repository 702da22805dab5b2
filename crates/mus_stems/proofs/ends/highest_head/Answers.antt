use Rattle.{std.proofs.{Common.arith, lemmas.Int.ints}, mus_stems.proofs.Ranges.{high_near}}
use Rattle.mus_stems.proofs.ends.highest_head.Goals as goal

pub returns-clause-low : goal.returns-clause-low
returns-clause-low c =
    let r = high_near c.args.stands.now c.requires in omega (arith, ints, c.high_in.ensures, r.0, r.1)

pub returns-clause-high : goal.returns-clause-high
returns-clause-high c =
    let r = high_near c.args.stands.now c.requires in omega (arith, ints, c.high_in.ensures, r.0, r.1)
