-- Signed numbers that were passed to a function are those numbers.
use Rattle.std.proofs.Common.{◌≡◌, ◌∙◌, ◌<◌, ℤ, of_z, to_z}
use Rattle.std.proofs.lemmas.Grind.{common_steps}
use Rattle.std.proofs.lemmas.Int.{ints, to_z-of_z}
use mir.Syntax.{w32, w64}
use mir.Val.{SFits}
use lib.Signed.{mag}

pub ruleset as_passed = (common_steps, ints, to_z-of_z)

-- one of 32 bits, widened
pub widened : (r z : ℤ)
    → r ≡ to_z w32 (of_z w32 z) → SFits w32 z → mag r < 9223372036854775808 → to_z w64 (of_z w64 r) ≡ z
widened r z e f g = to_z-of_z w64 r (record { sfits = g }) ∙ e ∙ to_z-of_z w32 z f
