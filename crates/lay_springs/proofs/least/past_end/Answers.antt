use Rattle.std.proofs.{Common.{inl, inr, arith}, lemmas.Int.ints}
use Rattle.lay_springs.proofs.least.past_end.Goals as goal

pub returns-clause-least : goal.returns-clause-least
returns-clause-least c = λ v up past.
    let small = c.requires.small.le in let room = c.from.ensures in
    let least = c.larger.ensures.least v (omega (arith, ints))
    (elim c.requires.nowhere [
      | inl some ↦ (let there = past some in omega (arith, ints))
      | inr none ↦ omega (arith, ints)
    ]) in
    omega (arith, ints)
