-- A spring that stops at a length keeps the laws of springs.
use Rattle.std.proofs.Common.{◌≡◌, ℕ, ◌^◌, ◌<◌, ◌≤◌, min, arith}
use Rattle.lay_reaches.specs.Column.{spring_length, length_rises, length_short, length_slack}

pub stopped_rises : (natural longest f g : ℕ)
    → f ≤ g → min (spring_length natural f) longest ≤ min (spring_length natural g) longest
stopped_rises natural longest f g l = let up = length_rises natural f g l in omega arith

pub stopped_short : (natural longest f : ℕ) → f < 2 ^ 16 → min (spring_length natural f) longest ≤ 2 ^ 20
stopped_short natural longest f l = let short = length_short natural f l in omega arith

pub stopped_slack : (natural longest : ℕ) → min (spring_length natural 0) longest ≡ 0
stopped_slack natural longest = let slack = length_slack natural in omega arith
