-- Meters and unit lengths: how they are written and what they mean.
use Prim.Native.Char.{code}
use Rattle.std.specs.Prelude.{ℕ, ◌+◌, ◌*◌, List, [], ◌∷◌, Bool, ◌==◌, nat_le, nat_lt, codes, Option, Some, None}
use Rattle.std.specs.Prelude.{if◌then◌else◌}
use Rattle.std.specs.List.{slice_split}
use Rattle.std.specs.Option.{option_and_then}
use Rattle.std.specs.Str.{bytes_eq}
use Rattle.mus_units.specs.declared.key.Meter.{Meter}
use Rattle.mus_units.specs.declared.value.Frac.{Frac}
use Rattle.mus_units.specs.Good.{is_halving}
use Rattle.abc_field.specs.Numbers.{number_of, before, from_first, after_one}
use Rattle.abc_field.specs.Words.{trimmed, after_prefix}

abbrev pub halving_of : Option ℕ → Option ℕ
halving_of None = None
halving_of (Some n) = if is_halving n then Some n else None

-- a number added to a total, if the sum is at most 99
abbrev pub plus : ℕ → Option ℕ → Option ℕ
plus total None = None
plus total (Some n) = if nat_le (total + n) 99 then Some (total + n) else None

-- the sum of numbers, added to what came before
abbrev pub with_terms : ℕ → List (List ℕ) → Option ℕ
with_terms total [] = Some total
with_terms total (term ∷ terms) = option_and_then (λ n. with_terms n terms) (plus total (number_of term))

abbrev pub is_plus : ℕ → Bool
is_plus b = b == code "+"

unfoldable pub sum_of : List ℕ → Option ℕ
sum_of s = with_terms 0 (slice_split is_plus s)

-- the terms after a first one
abbrev pub terms_after : List ℕ → List (List ℕ)
terms_after [] = []
terms_after (b ∷ s) = slice_split is_plus s

abbrev pub ratio : Option ℕ → Option ℕ → Option Meter
ratio None den = None
ratio (Some num) None = None
ratio (Some num) (Some den) = Some (Meter.Ratio num den)

abbrev pub below_of : List ℕ → Option ℕ
below_of s = halving_of (number_of s)

abbrev pub below_after : Option (List ℕ) → Option ℕ
below_after None = None
below_after (Some s) = below_of s

unfoldable pub plain_ratio : List ℕ → Option Meter
plain_ratio s = ratio (sum_of (before (code "/") s)) (below_of (after_one (from_first (code "/") s)))

unfoldable pub wrapped_ratio : List ℕ → Option Meter
wrapped_ratio s =
    ratio (sum_of (before (code ")") s))
    (below_after (after_prefix (codes "/") (after_one (from_first (code ")") s))))

abbrev pub ratio_by : List ℕ → Option (List ℕ) → Option Meter
ratio_by s None = plain_ratio s
ratio_by s (Some inside) = wrapped_ratio inside

unfoldable pub ratio_of : List ℕ → Option Meter
ratio_of s = ratio_by s (after_prefix (codes "(") s)

unfoldable pub meter_at : List ℕ → Option Meter
meter_at s =
    if bytes_eq s (codes "C") then Some Meter.Common
    else (if bytes_eq s (codes "C|") then Some Meter.Cut
    else (if bytes_eq s (codes "none") then Some Meter.Free
    else (if bytes_eq s [] then Some Meter.Free else ratio_of s)))

unfoldable pub meter_of : List ℕ → Option Meter
meter_of text = meter_at (trimmed text)

abbrev pub one_over : Option ℕ → Option Frac
one_over None = None
one_over (Some n) = Some (record { num = 1; den = n })

-- a unit length is 1, or 1 over a halving
unfoldable pub unit_at : List ℕ → Option Frac
unit_at s =
    if bytes_eq s (codes "1") then Some (record { num = 1; den = 1 })
    else one_over (below_after (after_prefix (codes "1/") s))

unfoldable pub unit_of : List ℕ → Option Frac
unit_of text = unit_at (trimmed text)

-- without a unit: a sixteenth if the meter is below 3/4, otherwise an eighth
abbrev pub default_unit : Meter → Frac
default_unit (Meter.Ratio num den) =
    if nat_lt (4 * num) (3 * den) then record { num = 1; den = 16 } else record { num = 1; den = 8 }
default_unit _ = record { num = 1; den = 8 }
