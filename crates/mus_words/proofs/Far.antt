-- After 2^32 texts each dy is clamped, so further texts need not be counted.
use Rattle.std.proofs.{Common.{◌≡◌, ℕ, ◌+◌, min, ℤ, pos, negsuc, ◌≤ℤ◌, arith}, lemmas.Int.{ints, clamps}}
use Rattle.{mus_ink.specs.Drawing.{cut_dy}, mus_words.specs.Texts.{above_dy, below_dy}}

pub far_above : (high : ℤ) (before k : ℕ)
    → negsuc 2147483647 ≤ℤ high → above_dy high (min before 4294967296 + min k 4294967296) ≡ above_dy high (before + k)
unfolding above_dy cut_dy
far_above high before k least = omega (arith, ints, clamps)

pub far_below : (low : ℤ) (verses before k : ℕ)
    → low ≤ℤ pos 2147483647
    → below_dy low verses (min before 4294967296 + min k 4294967296) ≡ below_dy low verses (before + k)
unfolding below_dy cut_dy
far_below low verses before k most = omega (arith, ints, clamps)
