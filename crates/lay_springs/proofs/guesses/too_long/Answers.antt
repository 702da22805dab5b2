use Rattle.std.proofs.{Common.{◌≡◌, ◌-◌, ◌∙◌, sym, w64, inl, inr, arith}, lemmas.{Bool.cases_lt, Int.{ints, to_z-of_z}}}
use Rattle.lay_springs.proofs.guesses.too_long.Goals as goal

pub returns-clause-never : goal.returns-clause-never
returns-clause-never g c = λ gaps x is placed f from within stood.
    let near = c.stretched-end.ensures.near gaps x
    (is ∙ sym (to_z-of_z w64 c.args.from (record { sfits = c.ranges.from.sfits }))) placed f (c.args.placed.force - f)
    stood.y (omega arith) stood.apart in
    let small = c.stretched-end.ensures.small in
    let begins = small.0 in
    let high = small.1 in
    let past = stood.past in
    let width = c.from-width.ensures in
    let long = c.if-end-width.false in
    elim (cases_lt f c.args.placed.force) [
      | inl less ↦ let far =
          c.lowered.ensures.past f (c.args.placed.force - f) (omega arith) (omega arith) (omega arith) in
          omega (arith, ints)
      | inr up ↦ let none : c.args.placed.force - f ≡ 0 = omega arith in omega (arith, ints, rw none at near)
    ]
