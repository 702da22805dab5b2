-- The printed form of a text: at most 60 of its characters, tabs as spaces, and control characters as question marks.
use Prim.Native.Char.{code}
use Rattle.std.specs.Prelude.{ℕ, ◌==◌, ◌||◌, ◌&&◌, nat_le, nat_lt, if◌then◌else◌, Bool, List, map, take}

-- below 20 and from 7F to 9F, in hexadecimal
abbrev pub is_control : ℕ → Bool
is_control byte = nat_lt byte 32 || (nat_le 127 byte && nat_lt byte 160)

unfoldable pub printed_byte : ℕ → ℕ
printed_byte byte = if byte == code "\t" then code " " else (if is_control byte then code "?" else byte)

abbrev pub printed_within : ℕ → List ℕ → List ℕ
printed_within most text = map printed_byte (take most text)

abbrev pub printed : List ℕ → List ℕ
printed text = printed_within 60 text

-- a printed text contains only bytes that a page may show
abbrev pub is_printable : ℕ → Bool
is_printable byte = (nat_le 32 byte && nat_lt byte 127) || nat_le 160 byte
