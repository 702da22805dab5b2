-- The spring of a column at a force, as placing needs it.
use Rattle.std.specs.Prelude.{◌≡◌, ℕ, ◌*◌, ◌/◌, ◌^◌, ◌<◌, ◌≤◌, min}
use Rattle.lay_reaches.specs.Distances.{most_length}
use Rattle.std.proofs.{Common.{arith, refl}, Math.Nat.mul-le-mul_right}

-- a natural length counts as at most the greatest
unfoldable pub spring_length : ℕ → ℕ → ℕ
spring_length natural force = min natural most_length * force / 256

pub length_rises : (n f g : ℕ) → f ≤ g → spring_length n f ≤ spring_length n g
unfolding spring_length
length_rises n f g l = grind arith

pub length_scales : (n f : ℕ) → spring_length n f ≡ spring_length n 256 * f / 256
unfolding spring_length
length_scales n f = let natural : min n most_length * 256 / 256 ≡ min n most_length = omega arith in rw natural refl

pub length_short : (n f : ℕ) → f < 2 ^ 16 → spring_length n f ≤ 2 ^ 20
unfolding spring_length
length_short n f l =
    let most : min n most_length ≤ most_length = omega arith in let up = mul-le-mul_right f most in omega arith

pub length_slack : (n : ℕ) → spring_length n 0 ≡ 0
unfolding spring_length
length_slack n = omega arith
