use Rattle.std.proofs.{Common.◌≡◌, Common.arith, lemmas.Int.ints}
use mir.Syntax.{w64}
use mir.Val.{to_z, of_z}
use Rattle.mus_laid.proofs.boxes.over_four.Goals as goal

pub returns : goal.returns
returns c =
    let a : to_z w64 (of_z w64 c.args.a) ≡ c.args.a = omega (arith, ints) in
    let b : to_z w64 (of_z w64 c.args.b) ≡ c.args.b = omega (arith, ints) in
    let p : to_z w64 (of_z w64 c.args.c) ≡ c.args.c = omega (arith, ints) in
    let q : to_z w64 (of_z w64 c.args.d) ≡ c.args.d = omega (arith, ints) in
    let low : to_z w64 (of_z w64 c.least-low.result) ≡ c.least-low.result = omega (arith, ints) in
    let other_low : to_z w64 (of_z w64 c.least-other_low.result) ≡ c.least-other_low.result = omega (arith, ints) in
    let high : to_z w64 (of_z w64 c.greatest-high.result) ≡ c.greatest-high.result = omega (arith, ints) in
    let other_high : to_z w64 (of_z w64 c.greatest-other_high.result) ≡ c.greatest-other_high.result =
    omega (arith, ints) in
    let least : to_z w64 (of_z w64 c.least.result) ≡ c.least.result = omega (arith, ints) in
    let greatest : to_z w64 (of_z w64 c.greatest.result) ≡ c.greatest.result = omega (arith, ints) in
    cc
