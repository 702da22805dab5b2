-- Values of digits: a sum that stops at a limit keeps values below the limit.
use Rattle.std.proofs.Common.{◌≡◌, ℕ, ◌+◌, ◌*◌, ◌-◌, ◌≤◌, ◌<◌, List, [], ◌∷◌, true, length, arith, min}
use Rattle.std.proofs.lemmas.Bool.{and_parts, leb-true}
use Rattle.std.specs.{List.list_all, Prelude.⊤}
use Rattle.abc_field.specs.Numbers.{is_digit, is_number, value_after, value_of}

-- values that are the same below the limit stay so
pub value_after-min : (ds : List ℕ) (x y : ℕ)
    → min x 10000000 ≡ min y 10000000 → min (value_after x ds) 10000000 ≡ min (value_after y ds) 10000000
value_after-min [] x y e = e
value_after-min (d ∷ ds) x y e = value_after-min ds (x * 10 + (d - 48)) (y * 10 + (d - 48)) (omega (arith, e))

abbrev AreLow : List ℕ → Type 0
AreLow [] = ⊤
AreLow (d ∷ ds) = (d ≤ 57) × AreLow ds

digits-low : (ds : List ℕ) → list_all is_digit ds ≡ true → AreLow ds
digits-low [] all = tt
digits-low (d ∷ ds) all =
    let parts = and_parts _ _ all in (leb-true d 57 (and_parts _ _ parts.0).1, digits-low ds parts.1)

four_digits : (ds : List ℕ) → length ds ≤ 4 → AreLow ds → value_of ds < 10000
four_digits [] few low = omega arith
four_digits (a ∷ []) few low = omega arith
four_digits (a ∷ b ∷ []) few low = omega arith
four_digits (a ∷ b ∷ c ∷ []) few low = omega arith
four_digits (a ∷ b ∷ c ∷ d ∷ []) few low = omega arith
four_digits (a ∷ b ∷ c ∷ d ∷ e ∷ ds) few low = absurd (omega arith)

pub number_small : (s : List ℕ) → is_number s ≡ true → value_of s < 10000
number_small s h =
    let p = and_parts _ _ h in four_digits s (leb-true _ _ (and_parts _ _ p.0).1) (digits-low s (and_parts _ _ p.1).0)
