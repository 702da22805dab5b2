-- Numbers of up to four digits.
use Rattle.std.proofs.Common.{◌≡◌, ℕ, zero, suc, ◌+◌, ◌*◌, ◌-◌, ◌≤◌, ◌<◌, true, List, [], ◌∷◌, length, get_or, refl}
use Rattle.std.proofs.Common.{arith}
use Rattle.std.proofs.lemmas.Bool.{and_parts}
use Rattle.std.{proofs.lemmas.Bool.{leb-true, lt-ltb, le-ltb}, specs.{List.list_all, Char.digit_value}}
use Rattle.{mus_units.specs.Bytes.{is_digit}, abc_notes.specs.Lengths.{limit_at}}

pub limit_step : (i v d : ℕ) → i < 4 → v < limit_at i → d < 10 → v * 10 + d < limit_at (suc i)
limit_step (suc (suc (suc (suc i)))) v d h small digit = absurd (omega arith)
limit_step _ v d h small digit = omega arith

pub digit_range : (b : ℕ) → is_digit b ≡ true → (48 ≤ b) × (b < 58)
digit_range b h =
    let p = and_parts _ _ h in let low = leb-true 48 b p.0 in let high = leb-true b 57 p.1 in (low, omega arith)

pub digit_at : (ds : List ℕ) (i : ℕ) → list_all is_digit ds ≡ true → i < length ds → is_digit (get_or ds i 0) ≡ true
digit_at [] i h lt = absurd (omega arith)
digit_at (d ∷ ds) zero h lt = (and_parts _ _ h).0
digit_at (d ∷ ds) (suc i) h lt = digit_at ds i (and_parts _ _ h).1 (omega arith)

pub digit_value-is : (b : ℕ) → 48 ≤ b → b < 58 → digit_value b ≡ b - 48
digit_value-is b low high = let l = le-ltb b 48 low in let h = lt-ltb b 58 high in rw (l, h) refl
