use Rattle.std.proofs.{Common.{rules, ◌≡◌, arith, ℤ, to_z, of_z, w32, w64, append_assoc, FitsSigned}, lemmas.Int.ints}
use Rattle.glyph_paths.proofs.procedures.put_step.Goals as goal

-- a coordinate that is widened and passed on stays the same
passed_on : (x r : ℤ) → FitsSigned w32 x → r ≡ to_z w32 (of_z w32 x) → to_z w64 (of_z w64 r) ≡ x
passed_on x r fits e = omega (arith, ints)

pub returns-in-Curve : goal.returns-in-Curve
returns-in-Curve c =
    let a = passed_on c.in-Curve.a c.into.result (search rules) c.into.ensures in
    let b = passed_on c.in-Curve.b c.into-in-Curve.result (search rules) c.into-in-Curve.ensures in
    let d = passed_on c.in-Curve.c c.into-in-Curve-2.result (search rules) c.into-in-Curve-2.ensures in
    let e = passed_on c.in-Curve.d c.into-in-Curve-3.result (search rules) c.into-in-Curve-3.ensures in
    let x = passed_on c.in-Curve.x c.into-in-Curve-4.result (search rules) c.into-in-Curve-4.ensures in
    let y = passed_on c.in-Curve.y c.into-in-Curve-5.result (search rules) c.into-in-Curve-5.ensures in
    rw c.in-Curve.is (rw (a, b, d, e, x, y, append_assoc) at c.put_curve.ensures)
