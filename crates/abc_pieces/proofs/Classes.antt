-- What the class of a byte says about the byte, and the class of each first byte.
use Rattle.std.proofs.Common.{◌≡◌, ℕ, ◌≤◌, ◌<◌, Bool, true, false, cond, eqb, leb, [], ◌∷◌, refl, subst, arith, inl}
use Rattle.std.proofs.Common.{inr, ◌||◌, ◌&&◌, not}
use Rattle.std.proofs.lemmas.Bool.{cond_both, eqb-true, leb-true, or_cases, and_parts, both_ways}
use Rattle.mus_units.specs.Bytes.{is_digit, is_blank, is_letter}
use Rattle.abc_pieces.specs.declared.token.PieceClass.{PieceClass}
use Rattle.abc_pieces.specs.Forms.{is_passed, is_passed_sign, is_passed_letter, arrow, rest_byte, measures_byte}
use Rattle.abc_pieces.specs.Reading.{class_of}
use Rattle.abc_notes.specs.Decorations.{is_deco_letter}
use Rattle.abc_notes.specs.Items.{is_note_byte}
use Rattle.abc_notes.proofs.ItemLaws.{implied, below_all}

abbrev pub Fact : PieceClass → ℕ → Type 0
Fact PieceClass.Note b = Unit {0}
Fact PieceClass.Rest b = b ≡ rest_byte (eqb b 122)
Fact PieceClass.Gap b = b ≡ 121
Fact PieceClass.Measures b = b ≡ measures_byte (eqb b 90)
Fact PieceClass.Bar b = Unit {0}
Fact PieceClass.Dot b = b ≡ 46
Fact PieceClass.Bracket b = b ≡ 91
Fact PieceClass.Brace b = b ≡ 123
Fact PieceClass.Paren b = b ≡ 40
Fact PieceClass.Close b = b ≡ 41
Fact PieceClass.Tie b = b ≡ 45
Fact PieceClass.Digit b = is_digit b ≡ true
Fact PieceClass.Broken b = b ≡ arrow (eqb b 62)
Fact PieceClass.Quote b = b ≡ 34
Fact PieceClass.Bang b = b ≡ 33
Fact PieceClass.Plus b = b ≡ 43
Fact PieceClass.Blank b = is_blank b ≡ true
Fact PieceClass.Letter b = is_deco_letter b ≡ true
Fact PieceClass.Dollar b = b ≡ 36
Fact PieceClass.Passed b = is_passed b ≡ true
Fact PieceClass.Nothing b = Unit {0}

two : (b c d : ℕ) → (eqb b c || eqb b d) ≡ true → b ≡ cond (eqb b c) c d
two b c d h = cond_both (eqb b c) c d (λ n. b ≡ n)
    (λ e. eqb-true b c e)
    (λ e. elim (or_cases _ _ h) [ inl same ↦ absurd (both_ways _ e same) | inr other ↦ eqb-true b d other ])

pub fact : (b : ℕ) → Fact (class_of b) b
unfolding class_of
fact b =
    let P : PieceClass → Type 0 = λ c. Fact c b in
    cond_both (is_note_byte b) _ _ P (λ e. tt) (λ e.
    cond_both (eqb b 122 || eqb b 120) _ _ P (two b 122 120) (λ e.
    cond_both (eqb b 121) _ _ P (eqb-true b 121) (λ e.
    cond_both (eqb b 90 || eqb b 88) _ _ P (two b 90 88) (λ e.
    cond_both (eqb b 58 || eqb b 124) _ _ P (λ e. tt) (λ e.
    cond_both (eqb b 46) _ _ P (eqb-true b 46) (λ e.
    cond_both (eqb b 91) _ _ P (eqb-true b 91) (λ e.
    cond_both (eqb b 123) _ _ P (eqb-true b 123) (λ e.
    cond_both (eqb b 40) _ _ P (eqb-true b 40) (λ e.
    cond_both (eqb b 41) _ _ P (eqb-true b 41) (λ e.
    cond_both (eqb b 45) _ _ P (eqb-true b 45) (λ e.
    cond_both (is_digit b) _ _ P (λ e. e) (λ e.
    cond_both (eqb b 62 || eqb b 60) _ _ P (two b 62 60) (λ e.
    cond_both (eqb b 34) _ _ P (eqb-true b 34) (λ e.
    cond_both (eqb b 33) _ _ P (eqb-true b 33) (λ e.
    cond_both (eqb b 43) _ _ P (eqb-true b 43) (λ e.
    cond_both (is_blank b) _ _ P (λ e. e) (λ e.
    cond_both (is_deco_letter b) _ _ P (λ e. e) (λ e.
    cond_both (eqb b 36) _ _ P (eqb-true b 36) (λ e.
    cond_both (is_passed b) _ _ P (λ e. e) (λ e. tt))))))))))))))))))))

pub fact_of : (b : ℕ) (c : PieceClass) → class_of b ≡ c → Fact c b
fact_of b c e = subst (λ k. Fact k b) e (fact b)

abbrev is_Digit : PieceClass → Bool
is_Digit PieceClass.Digit = true
is_Digit _ = false

abbrev is_Blank : PieceClass → Bool
is_Blank PieceClass.Blank = true
is_Blank _ = false

abbrev is_Letter : PieceClass → Bool
is_Letter PieceClass.Letter = true
is_Letter _ = false

abbrev is_Passed : PieceClass → Bool
is_Passed PieceClass.Passed = true
is_Passed _ = false

Digit-is : (c : PieceClass) → is_Digit c ≡ true → c ≡ PieceClass.Digit
Digit-is PieceClass.Digit h = refl
Digit-is _ h = absurd cc

Blank-is : (c : PieceClass) → is_Blank c ≡ true → c ≡ PieceClass.Blank
Blank-is PieceClass.Blank h = refl
Blank-is _ h = absurd cc

Letter-is : (c : PieceClass) → is_Letter c ≡ true → c ≡ PieceClass.Letter
Letter-is PieceClass.Letter h = refl
Letter-is _ h = absurd cc

Passed-is : (c : PieceClass) → is_Passed c ≡ true → c ≡ PieceClass.Passed
Passed-is PieceClass.Passed h = refl
Passed-is _ h = absurd cc

pub digit_below : (b : ℕ) → is_digit b ≡ true → b < 58
digit_below b h = let p = and_parts _ _ h in let high = leb-true b 57 p.1 in omega arith

pub digit_class : (b : ℕ) → is_digit b ≡ true → class_of b ≡ PieceClass.Digit
unfolding class_of
digit_class b h = Digit-is (class_of b) (implied is_digit (λ x. is_Digit (class_of x)) 58 b refl (digit_below b h) h)

blank_below : (b : ℕ) → is_blank b ≡ true → b < 58
blank_below b h = elim (or_cases _ _ h) [
  | inl space ↦ (let e = eqb-true b 32 space in omega arith)
  | inr tab ↦ (let e = eqb-true b 9 tab in omega arith)
]

pub blank_class : (b : ℕ) → is_blank b ≡ true → class_of b ≡ PieceClass.Blank
unfolding class_of
blank_class b h = Blank-is (class_of b) (implied is_blank (λ x. is_Blank (class_of x)) 58 b refl (blank_below b h) h)

pub letter_class : (b : ℕ) → is_deco_letter b ≡ true → class_of b ≡ PieceClass.Letter
unfolding class_of
letter_class b h =
    Letter-is (class_of b)
    (implied is_deco_letter (λ x. is_Letter (class_of x)) 127 b refl
    (below_all (126 ∷ 72 ∷ 76 ∷ 77 ∷ 79 ∷ 80 ∷ 83 ∷ 84 ∷ 117 ∷ 118 ∷ []) 127 b refl h) h)

passed_below : (b : ℕ) → is_passed b ≡ true → b < 127
passed_below b h =
    elim (or_cases (is_passed_sign b || is_passed_letter b) (leb 104 b && leb b 116) h) [
      | inl listed ↦ elim (or_cases (is_passed_sign b) (is_passed_letter b) listed) [
        | inl sign ↦ below_all (96 ∷ 42 ∷ 59 ∷ 63 ∷ 64 ∷ 35 ∷ 92 ∷ []) 127 b refl sign
        | inr letter ↦ below_all (119 ∷ 73 ∷ 74 ∷ 75 ∷ 78 ∷ 81 ∷ 82 ∷ 85 ∷ 86 ∷ 87 ∷ []) 127 b refl letter
      ]
      | inr letter ↦
          (let p = and_parts (leb 104 b) (leb b 116) letter in let high : b ≤ 116 = leb-true b 116 p.1 in omega arith)
    ]

pub passed_class : (b : ℕ) → is_passed b ≡ true → class_of b ≡ PieceClass.Passed
unfolding class_of
passed_class b h =
    Passed-is (class_of b) (implied is_passed (λ x. is_Passed (class_of x)) 127 b refl (passed_below b h) h)

-- a letter is neither a digit nor a bar sign
pub letter_apart : (b : ℕ) → is_letter b ≡ true → (not (eqb b 124) && not (is_digit b)) ≡ true
letter_apart b h =
    let below : b < 123 = elim (or_cases (leb 65 b && leb b 90) (leb 97 b && leb b 122) h) [
      | inl high ↦ (let p = and_parts (leb 65 b) (leb b 90) high in let e : b ≤ 90 = leb-true b 90 p.1 in omega arith)
      | inr low ↦ (let p = and_parts (leb 97 b) (leb b 122) low in let e : b ≤ 122 = leb-true b 122 p.1 in omega arith)
    ] in
    implied is_letter (λ x. not (eqb x 124) && not (is_digit x)) 123 b refl below h
