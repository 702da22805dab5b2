-- Numbers as written: those of music, and those of paper with hundredths.
use Prim.Native.Char.{code}
use Rattle.std.specs.Prelude.{ℕ, ◌+◌, ◌-◌, ◌*◌, take, drop, List, [], ◌∷◌, Bool, false, ◌==◌, ◌&&◌, not, nat_le, length}
use Rattle.std.specs.Prelude.{Option, Some, None, if◌then◌else◌}
use Rattle.std.specs.List.{list_all, prefix_len}
pub use Rattle.mus_units.specs.Bytes.{is_digit}

abbrev pub begins_zero : List ℕ → Bool
begins_zero [] = false
begins_zero (b ∷ s) = b == code "0"

-- a number as in music: one to four digits, the first of them not zero
abbrev pub is_number : List ℕ → Bool
is_number s = (nat_le 1 (length s) && nat_le (length s) 4) && (list_all is_digit s && not (begins_zero s))

-- the number that digits write after those of n
abbrev pub value_after : ℕ → List ℕ → ℕ
value_after n [] = n
value_after n (d ∷ ds) = value_after (n * 10 + (d - code "0")) ds

abbrev pub value_of : List ℕ → ℕ
value_of ds = value_after 0 ds

unfoldable pub number_of : List ℕ → Option ℕ
number_of s = if is_number s then Some (value_of s) else None

-- the distance to the first such byte, or to the end; what comes before it and from it on
abbrev pub place_of_byte : ℕ → List ℕ → ℕ
place_of_byte byte s = prefix_len (λ b. not (b == byte)) s

unfoldable pub before : ℕ → List ℕ → List ℕ
before byte s = take (place_of_byte byte s) s

unfoldable pub from_first : ℕ → List ℕ → List ℕ
from_first byte s = drop (place_of_byte byte s) s

abbrev pub after_one : List ℕ → List ℕ
after_one [] = []
after_one (b ∷ s) = s
