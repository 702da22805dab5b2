use Rattle.{std.proofs.{Common.arith, lemmas.Int.ints}, ps_text.proofs.FoundMarks.{small_low, small_high}}
use Rattle.ps_text.proofs.reading.narrowed.Goals as goal

pub overflow_cast-result : goal.overflow_cast-result
overflow_cast-result c =
    let low = small_low c.args.z c.requires in let high = small_high c.args.z c.requires in omega (arith, ints)

pub returns : goal.returns
returns c = let low = small_low c.args.z c.requires in let high = small_high c.args.z c.requires in omega (arith, ints)
