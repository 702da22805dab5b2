-- Good values: what each call that takes a key, a meter or a unit requires of it, and each call that makes one
-- ensures.
use Rattle.std.specs.Prelude.{◌≡◌, ⊤, ℕ, ◌==◌, ◌≤◌, ◌||◌, Bool, IsTrue, List, count_by}
use Rattle.mus_units.specs.Pitch.{letter_number}
use Rattle.mus_units.specs.declared.pitch.Letter.{Letter}
use Rattle.mus_units.specs.declared.key.Sign.{Sign}
use Rattle.mus_units.specs.declared.key.Key.{Key}
use Rattle.mus_units.specs.declared.key.Meter.{Meter}
use Rattle.mus_units.specs.declared.value.Frac.{Frac}
use Rattle.mus_units.specs.declared.key.Meter.TheVariants as meters

abbrev pub same_letter : Letter → Letter → Bool
same_letter a b = letter_number a == letter_number b

-- at most one entry per letter
abbrev pub AreGoodSigns : List Sign → Type 0
AreGoodSigns signs = (letter : Letter) → count_by (λ s. same_letter s.letter letter) signs ≤ 1

abbrev pub IsGoodKey : Key → Type 0
IsGoodKey key = AreGoodSigns key.signs

-- the halvings that a meter and a unit may name
abbrev pub is_halving : ℕ → Bool
is_halving n = n == 1 || n == 2 || n == 4 || n == 8 || n == 16 || n == 32 || n == 64

-- 1 to 99 over 1, 2, 4, 8, 16, 32 or 64
abbrev pub IsGoodMeter : Meter → Type 0
IsGoodMeter (meters.Ratio num den) = (1 ≤ num) × (num ≤ 99) × IsTrue (is_halving den)
IsGoodMeter _ = ⊤

-- 1 over 1, 2, 4, 8, 16, 32 or 64
abbrev pub IsGoodUnit : Frac → Type 0
IsGoodUnit unit = (unit.num ≡ 1) × IsTrue (is_halving unit.den)
