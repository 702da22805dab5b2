-- The ways in which a byte is shown.
use Rattle.std.proofs.Common.{◌≡◌, ℕ, ◌+◌, ◌<◌, ◌≤◌, ◌/◌, ◌%◌, Bool, true, false, ◌==◌, List, [], ◌∷◌, ◌++◌, refl}
use Rattle.std.proofs.Common.{IsTrue, arith, nat_le, sym, get_or}
use Rattle.std.proofs.lemmas.Bool.Decides.{nat_tests}
use Rattle.ps_text.specs.{Fields.is_special, Fields.shown, Range.is_shown}

pub shown_open : shown 40 ≡ 92 ∷ 40 ∷ []
unfolding shown
shown_open = refl

pub shown_close : shown 41 ≡ 92 ∷ 41 ∷ []
unfolding shown
shown_close = refl

pub shown_slash : shown 92 ≡ 92 ∷ 92 ∷ []
unfolding shown
shown_slash = refl

pub shown_plain : (b : ℕ) → b < 127 → (b ≡ 40 → ⊥) → (b ≡ 41 → ⊥) → (b ≡ 92 → ⊥) → shown b ≡ b ∷ []
unfolding shown
shown_plain b h p q r = grind (arith, nat_tests)

pub shown_octal : (b : ℕ) → 160 ≤ b → shown b ≡ 92 ∷ (48 + b / 64) ∷ (48 + b / 8 % 8) ∷ (48 + b % 8) ∷ []
unfolding shown
shown_octal b h = grind (arith, nat_tests)

pub shown_range : (b : ℕ) → IsTrue (is_shown b) → (160 ≤ b → ⊥) → (32 ≤ b) × (b < 127)
unfolding is_shown
shown_range b h n = grind (arith, nat_tests)

pub shown_most : (b : ℕ) → IsTrue (is_shown b) → b < 256
unfolding is_shown
shown_most b h = grind (arith, nat_tests)

-- a byte is a parenthesis, a backslash or another one
pub data Sort (b : ℕ) : Type 0 where
  is_open : b ≡ 40 → Sort b
  is_close : b ≡ 41 → Sort b
  is_slash : b ≡ 92 → Sort b
  is_plain : b < 127 → (b ≡ 40 → ⊥) → (b ≡ 41 → ⊥) → (b ≡ 92 → ⊥) → Sort b
  is_high : 160 ≤ b → b < 256 → Sort b

by_test : (b n : ℕ) (P : Type 0) (t : Bool) → (b == n) ≡ t → (b ≡ n → P) → ((b ≡ n → ⊥) → P) → P
by_test b n P true e f g = f (grind (arith, nat_tests))
by_test b n P false e f g = g (λ k. grind (arith, nat_tests))

same_or_not : (b n : ℕ) (P : Type 0) → (b ≡ n → P) → ((b ≡ n → ⊥) → P) → P
same_or_not b n P f g = by_test b n P (b == n) refl f g

by_order : (b n : ℕ) (P : Type 0) (t : Bool) → nat_le n b ≡ t → (n ≤ b → P) → ((n ≤ b → ⊥) → P) → P
by_order b n P true e f g = f (grind (arith, nat_tests))
by_order b n P false e f g = g (λ k. grind (arith, nat_tests))

le_or_not : (b n : ℕ) (P : Type 0) → (n ≤ b → P) → ((n ≤ b → ⊥) → P) → P
le_or_not b n P f g = by_order b n P (nat_le n b) refl f g

pub sort_of : (b : ℕ) → IsTrue (is_shown b) → Sort b
sort_of b h =
    same_or_not b 40 (Sort b) (λ e. is_open e) (λ p.
    same_or_not b 41 (Sort b) (λ e. is_close e) (λ q.
    same_or_not b 92 (Sort b) (λ e. is_slash e) (λ r.
    le_or_not b 160 (Sort b) (λ l. is_high l (shown_most b h)) (λ n. let k = shown_range b h n in is_plain k.1 p q r))))

-- what follows a backslash
pub data Escaped (b : ℕ) (bytes rest : List ℕ) : Type 0 where
  as_it_is : is_special b ≡ true → bytes ≡ b ∷ rest → Escaped b bytes rest
  as_digits : 160 ≤ b → b < 256 → bytes ≡ (48 + b / 64) ∷ (48 + b / 8 % 8) ∷ (48 + b % 8) ∷ rest → Escaped b bytes rest

pub tail_equal : (x : ℕ) (xs ys : List ℕ) → x ∷ xs ≡ x ∷ ys → xs ≡ ys
tail_equal x xs ys e = cc

pub head_equal : (x y : ℕ) (xs ys : List ℕ) → x ∷ xs ≡ y ∷ ys → x ≡ y
head_equal x y xs ys e = cc

pub escaped_of : (b : ℕ) (bytes rest : List ℕ)
    → IsTrue (is_shown b) → 92 ∷ bytes ≡ shown b ++ rest → Escaped b bytes rest
escaped_of b bytes rest h e = elim (sort_of b h) [
  | is_open k ↦ as_it_is (rw k refl) (rw k (tail_equal 92 bytes (40 ∷ rest) (rw (k, shown_open) at e)))
  | is_close k ↦ as_it_is (rw k refl) (rw k (tail_equal 92 bytes (41 ∷ rest) (rw (k, shown_close) at e)))
  | is_slash k ↦ as_it_is (rw k refl) (rw k (tail_equal 92 bytes (92 ∷ rest) (rw (k, shown_slash) at e)))
  | is_plain l p q r ↦ absurd (r (head_equal b 92 rest bytes (sym (rw (shown_plain b l p q r) at e))))
  | is_high l m ↦ as_digits l m (tail_equal 92 bytes _ (rw (shown_octal b l) at e))
]

-- the first octal digit is no parenthesis and no backslash
pub digit_is_plain : (b : ℕ) → b < 256 → is_special (48 + b / 64) ≡ false
digit_is_plain b h = grind (arith, nat_tests)

pub first_of : (bytes rest : List ℕ) (b : ℕ) → bytes ≡ b ∷ rest → get_or bytes 0 0 ≡ b
first_of bytes rest b e = rw e refl

-- the start of a text that begins with a shown byte
pub data Shows (b : ℕ) (bytes rest : List ℕ) : Type 0 where
  slashed : (more : List ℕ) → bytes ≡ 92 ∷ more → Shows b bytes rest
  bare : (b ≡ 41 → ⊥) → bytes ≡ b ∷ rest → Shows b bytes rest

pub shows_of : (b : ℕ) (bytes rest : List ℕ) → IsTrue (is_shown b) → bytes ≡ shown b ++ rest → Shows b bytes rest
shows_of b bytes rest h e = elim (sort_of b h) [
  | is_open k ↦ slashed (40 ∷ rest) (rw (k, shown_open) at e)
  | is_close k ↦ slashed (41 ∷ rest) (rw (k, shown_close) at e)
  | is_slash k ↦ slashed (92 ∷ rest) (rw (k, shown_slash) at e)
  | is_plain l p q r ↦ bare q (rw (shown_plain b l p q r) at e)
  | is_high l m ↦ slashed _ (rw (shown_octal b l) at e)
]
