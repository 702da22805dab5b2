-- The largest size of a number of the painting machine: 2^60.
use Rattle.std.specs.Prelude.{ℤ, pos, negsuc, int_le, Bool, ◌&&◌}

-- within 2^60 of 0
abbrev pub is_near : ℤ → Bool
is_near z = int_le (negsuc 1152921504606846975) z && int_le z (pos 1152921504606846976)

-- the same in hundredths
abbrev pub is_near_hundredths : ℤ → Bool
is_near_hundredths z = int_le (negsuc 115292150460684697599) z && int_le z (pos 115292150460684697600)
