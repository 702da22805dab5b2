-- Digits as a number.
use Rattle.std.proofs.Common.{◌≡◌, ℕ, ◌-◌, ◌&&◌, ◌<◌, ◌≤◌, ◌^◌, true, false, List, [], ◌∷◌, length, take, drop}
use Rattle.std.proofs.Common.{drop-drop, length-drop, length-append, Option, refl, sym, ◌∙◌, ap, arith, inl, inr}
use Rattle.std.proofs.Common.{Result, Ok, Err, MatchOption, ◌==◌}
use Rattle.std.proofs.lemmas.Bool.{cases_lt, true≢false, and_parts}
use Rattle.std.proofs.lemmas.Bool.Decides.{nat_tests}
use Rattle.std.proofs.lemmas.List.Folds.{list_all-append}
use Rattle.std.specs.Result.{result_ok}
use Rattle.std.specs.List.{list_all}
use Rattle.std.specs.Str.Parse.{digits_value, AllDigits, IsNumeral, ParsesUnsigned, without_leading_plus}
use Rattle.std.specs.Char.{digit_value}
use Rattle.mus_units.specs.Bytes.{is_digit}
use Rattle.ps_steps.specs.Tokens.{some_digits, is_fraction, is_pointed, unsigned, without_point}

digit_small : (b : ℕ) → is_digit b ≡ true → digit_value b < 10
digit_small b e = grind (arith, nat_tests)

no_plus : (b : ℕ) → is_digit b ≡ true → (b == 43) ≡ false
no_plus b e = grind (arith, nat_tests)

pub all_digits : (ds : List ℕ) → list_all is_digit ds ≡ true → AllDigits 10 ds
all_digits [] e = tt
all_digits (b ∷ ds) e = (
  digit_small b (and_parts (is_digit b) (list_all is_digit ds) e).0,
  all_digits ds (and_parts (is_digit b) (list_all is_digit ds) e).1,
)

pub digits_all : (ds : List ℕ) → some_digits ds ≡ true → list_all is_digit ds ≡ true
digits_all [] e = absurd (true≢false (sym e))
digits_all (b ∷ ds) e = e

plain_digits : (ds : List ℕ) → some_digits ds ≡ true → without_leading_plus ds ≡ ds
plain_digits [] e = absurd (true≢false (sym e))
plain_digits (b ∷ ds) e = rw (no_plus b (and_parts (is_digit b) (list_all is_digit ds) e).0) refl

numeral : (ds : List ℕ) → some_digits ds ≡ true → IsNumeral 10 ds
numeral [] e = absurd (true≢false (sym e))
numeral (b ∷ ds) e = (omega arith, all_digits (b ∷ ds) e)

pub digits_parsed : {E : Type 0} (k : ℕ) (ds : List ℕ) (r : Result ℕ E) (o : Option ℕ)
    → some_digits ds ≡ true → ParsesUnsigned k 10 ds r → o ≡ result_ok r
    → MatchOption o (2 ^ k ≤ digits_value 10 ds) (λ v. v ≡ digits_value 10 ds)
digits_parsed k ds (Ok v) o e p q = rw q (p.1 ∙ ap (digits_value 10) (plain_digits ds e))
digits_parsed k ds (Err x) o e p q =
    rw q (elim (cases_lt (digits_value 10 ds) (2 ^ k)) [
      | inl lt ↦ absurd (p (rw (plain_digits ds e) (numeral ds e, lt)))
      | inr ge ↦ ge
    ])

some_is : (ds : List ℕ) → 1 ≤ length ds → list_all is_digit ds ≡ true → some_digits ds ≡ true
some_is [] l e = absurd (omega arith)
some_is (b ∷ ds) l e = e

some_length : (ds : List ℕ) → some_digits ds ≡ true → 1 ≤ length ds
some_length [] e = absurd (true≢false (sym e))
some_length (b ∷ ds) e = omega arith

-- after the point there are digits
fraction_digits : (s : List ℕ) → is_fraction s ≡ true → list_all is_digit (drop 1 s) ≡ true
fraction_digits (p ∷ a ∷ b ∷ []) e =
    let x = (and_parts ((p == 46) && is_digit a) (is_digit b) e).0 in
    rw ((and_parts (p == 46) (is_digit a) x).1, (and_parts ((p == 46) && is_digit a) (is_digit b) e).1) refl
fraction_digits (p ∷ a ∷ b ∷ c ∷ s) e = absurd (true≢false (sym e))
fraction_digits _ e = absurd (true≢false (sym e))

fraction_length : (s : List ℕ) → is_fraction s ≡ true → length s ≡ 3
fraction_length (p ∷ a ∷ b ∷ []) e = refl
fraction_length (p ∷ a ∷ b ∷ c ∷ s) e = absurd (true≢false (sym e))
fraction_length _ e = absurd (true≢false (sym e))

pub pointed_digits : (w : List ℕ) → is_pointed w ≡ true → some_digits (without_point (unsigned w)) ≡ true
pointed_digits w e =
    let u = unsigned w in
    let f = (and_parts (some_digits (take (length u - 3) u)) (is_fraction (drop (length u - 3) u)) e).0 in
    let b = (and_parts (some_digits (take (length u - 3) u)) (is_fraction (drop (length u - 3) u)) e).1 in
    let size = fraction_length (drop (length u - 3) u) b in
    let long : 3 ≤ length u = omega (arith, size, length-drop (length u - 3) u) in
    let back : drop (length u - 2) u ≡ drop 1 (drop (length u - 3) u) =
    ap (λ k. drop k u) (omega arith) ∙ sym (drop-drop 1 (length u - 3) u) in
    some_is (without_point u)
    (omega (
      arith,
      length-append (take (length u - 3) u) (drop (length u - 2) u),
      some_length (take (length u - 3) u) f,
    ))
    (list_all-append is_digit (take (length u - 3) u) (drop (length u - 2) u)
    ∙ rw (digits_all (take (length u - 3) u) f, back, fraction_digits (drop (length u - 3) u) b) refl)
