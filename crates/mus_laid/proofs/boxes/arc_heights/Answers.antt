use Rattle.std.proofs.{Common.◌≡◌, Common.arith, Common.◌+ℤ◌, Common.to_z, Common.of_z, Common.w64, lemmas.Int.ints}
use Rattle.mus_laid.specs.Boxes.{arc_heights}
use Rattle.mus_laid.proofs.boxes.arc_heights.Goals as goal

pub returns : goal.returns
unfolding arc_heights
returns c =
    let from : to_z w64 (of_z w64 c.from.result) ≡ c.args.from = omega (arith, ints) in
    let to : to_z w64 (of_z w64 c.from-2.result) ≡ c.args.to = omega (arith, ints) in
    let start : to_z w64 (of_z w64 c.sum.result) ≡ c.args.from +ℤ c.args.bulge = omega (arith, ints) in
    let end : to_z w64 (of_z w64 c.sum-2.result) ≡ c.args.to +ℤ c.args.bulge = omega (arith, ints) in cc
