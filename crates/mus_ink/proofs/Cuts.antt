-- Clamping a height in steps before its dy is taken changes nothing.
use Rattle.std.proofs.{Common.◌≡◌, Common.ℤ, Common.arith, lemmas.Int.ints, lemmas.Int.clamps}
use Rattle.mus_ink.specs.Drawing.{cut_dy, steps_dy}

pub cut_inside : (z : ℤ) → steps_dy (cut_dy z) ≡ steps_dy z
unfolding steps_dy cut_dy
cut_inside z = omega (arith, ints, clamps)
