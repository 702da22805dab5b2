use Rattle.std.proofs.Common.{◌≡◌, arith}
use Rattle.mus_units.{specs.Parts.units_of, proofs.Longest.value_short}
use Rattle.mus_units.proofs.parts.value_of.Goals as goal

pub returns-then-left-ge2048 : goal.returns-then-left-ge2048
returns-then-left-ge2048 c v h =
    let same : c.in_ok-left.left ≡ units_of v =
    c.in_ok-left.ensures.only c.in_ok-left.left (units_of v) c.in_ok-left.ensures.is h.1 in
    let short = value_short v h.0 in
    omega (arith, c.if-left-ge2048.true)
