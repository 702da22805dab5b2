use Rattle.std.proofs.Common.{◌≡◌, ◌*ℤ◌, ◌≤ℤ◌, refl, ◌∙◌, to_z, of_z, w32, w64, arith, ◌≤◌, ◌^◌}
use Rattle.std.proofs.lemmas.Int.{ints, fits_signed_mul, to_z-of_z}
use Rattle.std.specs.Int.{int_div_euclid}
use Rattle.std.specs.Int.RustNames.{unsigned_abs}
use Rattle.mus_stems.specs.Distances.{steepest_climb, steepest, steepest_down}
use Rattle.mus_stems.proofs.SlopeLaws.{rise_near}
use Rattle.mus_stems.proofs.slopes.risen.Goals as goal

-- the quotient is that of the whole product
quotient_is : (c : goal.After-div_euclid)
    → c.div_euclid.result ≡ int_div_euclid (c.args.climb *ℤ c.args.along) c.args.length
quotient_is c =
    let low = c.requires.low in
    let high = c.requires.high in
    let begun = c.requires.begun in
    let within = c.requires.within in
    let near = c.requires.near in
    let climb : unsigned_abs c.args.climb ≤ steepest_climb = omega (arith, ints, low, high) in
    let along : unsigned_abs c.args.along ≤ 2 ^ 40 = omega (arith, ints, begun, within, near) in
    let climb_is : to_z w64 (of_z w64 c.args.climb) ≡ c.args.climb = omega (arith, ints, low, high) in
    let along_is : to_z w64 (of_z w64 c.args.along) ≡ c.args.along = omega (arith, ints, begun, within, near) in
    let length_is : to_z w64 (of_z w64 c.args.length) ≡ c.args.length = omega (arith, ints, begun, within, near) in
    let product_is : to_z w64 (of_z w64 (c.args.climb *ℤ c.args.along)) ≡ c.args.climb *ℤ c.args.along
    = to_z-of_z w64 (c.args.climb *ℤ c.args.along)
    (fits_signed_mul w64 c.args.climb c.args.along steepest_climb (2 ^ 40) climb along (omega arith)) in
    c.div_euclid.ensures ∙ rw (climb_is, along_is, length_is, product_is) refl

near : (c : goal.After-div_euclid) → (steepest_down ≤ℤ c.div_euclid.result) × (c.div_euclid.result ≤ℤ steepest)
near c =
    let q = quotient_is c in
    let r = rise_near c.args.climb c.args.along c.args.length c.requires.low c.requires.high c.requires.begun
    c.requires.within c.requires.some in
    (omega (arith, ints, q, r.0), omega (arith, ints, q, r.1))

pub overflow_cast-result : goal.overflow_cast-result
overflow_cast-result c = let n = near c in omega (arith, ints, n.0, n.1)

pub returns-clause-value : goal.returns-clause-value
returns-clause-value c =
    let n = near c in
    let same : to_z w32 (of_z w32 (to_z w64 (of_z w64 c.div_euclid.result))) ≡ c.div_euclid.result =
    omega (arith, ints, n.0, n.1) in
    same ∙ quotient_is c

pub returns-clause-low : goal.returns-clause-low
returns-clause-low c = let n = near c in omega (arith, ints, n.0, n.1)

pub returns-clause-high : goal.returns-clause-high
returns-clause-high c = let n = near c in omega (arith, ints, n.0, n.1)
