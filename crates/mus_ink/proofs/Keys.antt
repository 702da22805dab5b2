-- A key has at most seven signs.
use Rattle.std.proofs.Common.{◌≡◌, ℕ, suc, ◌+◌, ◌≤◌, List, [], ◌∷◌, length, refl, cond, arith}
use Rattle.std.proofs.lemmas.List.Sums.{sum_by-cons}
use Rattle.std.specs.Prelude.{count_by}
use Rattle.mus_units.specs.{declared.pitch.Letter.Letter, declared.key.Sign.Sign, Good.AreGoodSigns, Good.same_letter}

abbrev count_of : Letter → List Sign → ℕ
count_of letter signs = count_by (λ s. same_letter s.letter letter) signs

abbrev Within : ℕ → ℕ → ℕ → ℕ → ℕ → ℕ → ℕ → ℕ → Type 0
Within n c d e f g a b = n ≤ c + d + e + f + g + a + b

abbrev is_one : Letter → Letter → ℕ
is_one m n = cond (same_letter m n) 1 0

-- a letter is one of the seven
one : (m : Letter)
    → is_one m Letter.C + is_one m Letter.D + is_one m Letter.E + is_one m Letter.F + is_one m Letter.G
    + is_one m Letter.A + is_one m Letter.B
    ≡ 1
one Letter.C = refl
one Letter.D = refl
one Letter.E = refl
one Letter.F = refl
one Letter.G = refl
one Letter.A = refl
one Letter.B = refl

grown : (n c d e f g a b c-more d-more e-more f-more g-more a-more b-more c-one d-one e-one f-one g-one a-one b-one : ℕ)
    → Within n c d e f g a b
    → c-more ≡ c-one + c → d-more ≡ d-one + d → e-more ≡ e-one + e → f-more ≡ f-one + f → g-more ≡ g-one + g
    → a-more ≡ a-one + a → b-more ≡ b-one + b → c-one + d-one + e-one + f-one + g-one + a-one + b-one ≡ 1
    → Within (suc n) c-more d-more e-more f-more g-more a-more b-more
grown n c d e f g a b c-more d-more e-more f-more g-more a-more b-more c-one d-one e-one f-one g-one a-one b-one h ec ed
    ee ef eg ea eb all =
    omega arith

counted_by : (m : Letter) (s : Sign) (ss : List Sign) → count_of m (s ∷ ss) ≡ is_one s.letter m + count_of m ss
counted_by m s ss = sum_by-cons (λ t. cond (same_letter t.letter m) 1 0) s ss

counted : (signs : List Sign)
    → Within (length signs) (count_of Letter.C signs) (count_of Letter.D signs) (count_of Letter.E signs)
    (count_of Letter.F signs) (count_of Letter.G signs) (count_of Letter.A signs) (count_of Letter.B signs)
counted [] = omega arith
counted (s ∷ ss) =
    grown (length ss) (count_of Letter.C ss) (count_of Letter.D ss) (count_of Letter.E ss) (count_of Letter.F ss)
    (count_of Letter.G ss) (count_of Letter.A ss) (count_of Letter.B ss) (count_of Letter.C (s ∷ ss))
    (count_of Letter.D (s ∷ ss)) (count_of Letter.E (s ∷ ss)) (count_of Letter.F (s ∷ ss)) (count_of Letter.G (s ∷ ss))
    (count_of Letter.A (s ∷ ss)) (count_of Letter.B (s ∷ ss)) (is_one s.letter Letter.C) (is_one s.letter Letter.D)
    (is_one s.letter Letter.E) (is_one s.letter Letter.F) (is_one s.letter Letter.G) (is_one s.letter Letter.A)
    (is_one s.letter Letter.B)
    (counted ss) (counted_by Letter.C s ss) (counted_by Letter.D s ss) (counted_by Letter.E s ss)
    (counted_by Letter.F s ss) (counted_by Letter.G s ss) (counted_by Letter.A s ss) (counted_by Letter.B s ss)
    (one s.letter)

seven : (n c d e f g a b : ℕ) → Within n c d e f g a b → c ≤ 1 → d ≤ 1 → e ≤ 1 → f ≤ 1 → g ≤ 1 → a ≤ 1 → b ≤ 1 → n ≤ 7
seven n c d e f g a b h lc ld le lf lg la lb = omega arith

pub few_signs : (signs : List Sign) → AreGoodSigns signs → length signs ≤ 7
few_signs signs good =
    seven (length signs) (count_of Letter.C signs) (count_of Letter.D signs) (count_of Letter.E signs)
    (count_of Letter.F signs) (count_of Letter.G signs) (count_of Letter.A signs) (count_of Letter.B signs)
    (counted signs) (good Letter.C) (good Letter.D) (good Letter.E) (good Letter.F) (good Letter.G) (good Letter.A)
    (good Letter.B)
