-- Paper lengths and the paper scale: numbers with up to two decimals, and a unit.
use Prim.Native.Char.{code}
use Rattle.std.specs.Prelude.{ℕ, ◌+◌, ◌-◌, ◌*◌, ◌/◌, List, [], ◌∷◌, Bool, ◌&&◌, nat_le, if◌then◌else◌, take, drop}
use Rattle.std.specs.Prelude.{codes, Option, Some, None}
use Rattle.std.specs.List.{prefix_len}
use Rattle.std.specs.Option.{option_and_then}
use Rattle.std.specs.Str.{bytes_eq}
use Rattle.abc_field.specs.{Numbers.is_digit, Numbers.value_of, Words.after_prefix}

-- the leading digits, and what follows them
abbrev pub digit_len : List ℕ → ℕ
digit_len s = prefix_len is_digit s

-- a number in hundredths, and what follows it
abbrev pub with_decimals : ℕ → List ℕ → List ℕ → Option (ℕ × List ℕ)
with_decimals whole (a ∷ []) rest = Some (whole * 100 + (a - code "0") * 10, rest)
with_decimals whole (a ∷ b ∷ []) rest = Some (whole * 100 + ((a - code "0") * 10 + (b - code "0")), rest)
with_decimals whole _ rest = None

-- a point is followed by one or two digits
abbrev pub decimals : ℕ → List ℕ → Option (List ℕ) → Option (ℕ × List ℕ)
decimals whole rest None = Some (whole * 100, rest)
decimals whole rest (Some after_point) =
    with_decimals whole (take (digit_len after_point) after_point) (drop (digit_len after_point) after_point)

-- no number that counts is above 100000
abbrev pub whole_of : List ℕ → Option ℕ
whole_of [] = None
whole_of (d ∷ ds) = if nat_le (value_of (d ∷ ds)) 100000 then Some (value_of (d ∷ ds)) else None

unfoldable pub hundredths_of : List ℕ → Option (ℕ × List ℕ)
hundredths_of s =
    option_and_then (λ whole. decimals whole (drop (digit_len s) s) (after_prefix (codes ".") (drop (digit_len s) s)))
    (whole_of (take (digit_len s) s))

-- that many hundredths of a unit in hundredths of a point
abbrev pub in_units : ℕ → List ℕ → Option ℕ
in_units v w =
    if bytes_eq w (codes "pt") then Some v
    else (if bytes_eq w (codes "in") then Some (72 * v)
    else (if bytes_eq w (codes "cm") then Some (v * 3600 / 127) else None))

-- a length above 100000 is none
abbrev pub within_paper : ℕ → Option ℕ
within_paper u = if nat_le u 100000 then Some u else None

unfoldable pub length_of : List ℕ → Option ℕ
length_of text =
    option_and_then (λ number. option_and_then within_paper (in_units number.0 number.1)) (hundredths_of text)

abbrev pub is_scale : ℕ → Bool
is_scale v = nat_le 40 v && nat_le v 150

abbrev pub scale_by : ℕ × List ℕ → Option ℕ
scale_by number = if is_scale number.0 && bytes_eq number.1 [] then Some number.0 else None

unfoldable pub scale_of : List ℕ → Option ℕ
scale_of text = option_and_then scale_by (hundredths_of text)
