use Rattle.std.proofs.{Common.{◌≡◌, ◌-ℤ◌, refl, ◌∙◌, to_z, of_z, w32, w64, arith}, lemmas.Int.ints}
use Rattle.mus_stems.specs.Slope.{rise_at}
use Rattle.mus_stems.proofs.slopes.rise.Goals as goal

pub returns-clause-value : goal.returns-clause-value
unfolding rise_at
returns-clause-value c =
    let line = c.args.line.now in
    let is = c.requires.line in
    let low = c.risen.ensures.low in
    let high = c.risen.ensures.high in
    let first = is.first in
    let rising = is.rising in
    let last = is.last in
    let slow = is.low in
    let shigh = is.high in
    let after = c.requires.after in
    let before = c.requires.before in
    let same : to_z w32 (of_z w32 c.risen.result) ≡ c.risen.result = omega (arith, ints, low, high) in
    let climb_is : to_z w64 (of_z w64 line.climb) ≡ line.climb = omega (arith, ints, slow, shigh) in
    let x_is : to_z w64 (of_z w64 c.args.x) ≡ c.args.x = omega (arith, ints, first, after, before, last) in
    let first_is : to_z w64 (of_z w64 line.first) ≡ line.first = omega (arith, ints, first, rising, last) in
    let last_is : to_z w64 (of_z w64 line.last) ≡ line.last = omega (arith, ints, first, rising, last) in
    let along_is : to_z w64 (of_z w64 (c.args.x -ℤ line.first)) ≡ c.args.x -ℤ line.first =
    omega (arith, ints, first, after, before, last) in
    let length_is : to_z w64 (of_z w64 (line.last -ℤ line.first)) ≡ line.last -ℤ line.first =
    omega (arith, ints, first, rising, last) in
    same ∙ c.risen.ensures.value ∙ rw (x_is, first_is, last_is, climb_is, along_is, length_is) refl
