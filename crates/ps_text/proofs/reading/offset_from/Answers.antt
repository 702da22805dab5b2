use Rattle.std.proofs.{Common.◌≡◌, Common.to_z, Common.of_z, Common.w64, Common.arith, lemmas.Int.ints}
use Rattle.ps_text.proofs.FoundMarks.{too_far}
use Rattle.ps_text.proofs.reading.offset_from.Goals as goal

pub returns-in_default : goal.returns-in_default
returns-in_default c =
    let z : to_z w64 (of_z w64 c.args.z) ≡ c.args.z = omega (arith, ints) in
    let y : to_z w64 (of_z w64 c.args.y) ≡ c.args.y = omega (arith, ints) in
    too_far c.args.z c.args.y (λ fits. c.in_default.ensures (rw (z, y) fits))
