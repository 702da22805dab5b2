-- What is left to be taken from the start of a line.
use Rattle.std.proofs.Common.{◌≡◌, ℕ, ℤ, List, [], ◌∷◌, ◌++◌, refl, sym, ◌∙◌, append_assoc, append-nil, IsTrue}
use Rattle.std.proofs.lemmas.Bool.{and_parts}
use Rattle.std.specs.Fmt.{signed_decimal}
use Rattle.std.specs.List.{flat_map, list_all, AllByRecursion}
use Rattle.glyph_paths.specs.Procedure.{numbers}
use Rattle.ps_text.specs.Fields.{shown}
use Rattle.ps_text.specs.Range.{is_shown, IsNumber}
use Rattle.ps_text.specs.Scanning.{ReadsNumber}

-- some words were taken, and the others precede a closing parenthesis
pub record WordsLeft (text rest words tail : List ℕ) : Type 0 where
  pub left : List ℕ
  pub whole : text ++ left ≡ words
  pub good : IsTrue (list_all is_shown left)
  pub follows : rest ≡ flat_map shown left ++ 41 ∷ tail

words_more : (text rest words tail left : List ℕ) (b : ℕ) (after : List ℕ)
    → text ++ left ≡ words → IsTrue (list_all is_shown left) → rest ≡ flat_map shown left ++ 41 ∷ tail
    → ((x : ℕ) (r : List ℕ) → IsTrue (is_shown x) → rest ≡ shown x ++ r → (b ≡ x) × (after ≡ r))
    → ((r : List ℕ) → rest ≡ 41 ∷ r → ⊥)
    → WordsLeft (text ++ b ∷ []) after words tail
words_more text rest words tail [] b after w g f reads ends = absurd (ends tail f)
words_more text rest words tail (x ∷ xs) b after w g f reads ends =
    let both = and_parts (is_shown x) (list_all is_shown xs) g in
    let p =
    reads x (flat_map shown xs ++ 41 ∷ tail) both.0 (f ∙ append_assoc (shown x) (flat_map shown xs) (41 ∷ tail)) in
    record { left = xs; whole = rw (p.0, append_assoc) w; good = both.1; follows = p.1 }

pub words_step : (text rest words tail : List ℕ) (b : ℕ) (after : List ℕ) → WordsLeft text rest words tail
    → ((x : ℕ) (r : List ℕ) → IsTrue (is_shown x) → rest ≡ shown x ++ r → (b ≡ x) × (after ≡ r))
    → ((r : List ℕ) → rest ≡ 41 ∷ r → ⊥)
    → WordsLeft (text ++ b ∷ []) after words tail
words_step text rest words tail b after s reads ends =
    words_more text rest words tail s.left b after s.whole s.good s.follows reads ends

words_last : (text rest words tail left : List ℕ)
    → text ++ left ≡ words → IsTrue (list_all is_shown left) → rest ≡ flat_map shown left ++ 41 ∷ tail
    → ((x : ℕ) (r : List ℕ) → IsTrue (is_shown x) → rest ≡ shown x ++ r → ⊥) → (text ≡ words) × (rest ≡ 41 ∷ tail)
words_last text rest words tail [] w g f none = (sym (append-nil text) ∙ w, f)
words_last text rest words tail (x ∷ xs) w g f none =
    let both = and_parts (is_shown x) (list_all is_shown xs) g in
    absurd (none x (flat_map shown xs ++ 41 ∷ tail) both.0 (f ∙ append_assoc (shown x) (flat_map shown xs) (41 ∷ tail)))

pub words_end : (text rest words tail : List ℕ)
    → WordsLeft text rest words tail
    → ((x : ℕ) (r : List ℕ) → IsTrue (is_shown x) → rest ≡ shown x ++ r → ⊥)
    → (text ≡ words) × (rest ≡ 41 ∷ tail)
words_end text rest words tail s none = words_last text rest words tail s.left s.whole s.good s.follows none

-- some numbers were taken, and the others precede a last field
pub record NumbersLeft (row : List ℤ) (rest : List ℕ) (zs : List ℤ) (name : List ℕ) : Type 0 where
  pub left : List ℤ
  pub whole : row ++ left ≡ zs
  pub good : AllByRecursion IsNumber left
  pub follows : rest ≡ numbers left ++ name

pub numbers_start : (bytes : List ℕ) (zs : List ℤ) (name : List ℕ)
    → AllByRecursion IsNumber zs → bytes ≡ numbers zs ++ name → NumbersLeft [] bytes zs name
numbers_start bytes zs name h e = record { left = zs; whole = refl; good = h; follows = e }

numbers_nil : (name : List ℕ) → numbers [] ++ name ≡ name
unfolding numbers
numbers_nil name = refl

pub numbers_cons : (z : ℤ) (zs : List ℤ) (name : List ℕ)
    → numbers (z ∷ zs) ++ name ≡ signed_decimal z ++ 32 ∷ (numbers zs ++ name)
unfolding numbers
numbers_cons z zs name = simp append_assoc

numbers_more : (row : List ℤ) (rest : List ℕ) (zs : List ℤ) (name : List ℕ) (left : List ℤ) (z : ℤ) (after : List ℕ)
    → row ++ left ≡ zs → AllByRecursion IsNumber left → rest ≡ numbers left ++ name
    → ((x : ℤ) (r : List ℕ) → ReadsNumber x r rest → (z ≡ x) × (after ≡ r))
    → (rest ≡ name → ⊥)
    → NumbersLeft (row ++ z ∷ []) after zs name
numbers_more row rest zs name [] z after w g f reads ends = absurd (ends (f ∙ numbers_nil name))
numbers_more row rest zs name (x ∷ xs) z after w g f reads ends =
    let p = reads x (numbers xs ++ name) (record { number = g.0; spelled = f ∙ numbers_cons x xs name }) in
    record { left = xs; whole = rw (p.0, append_assoc) w; good = g.1; follows = p.1 }

pub numbers_step : (row : List ℤ) (rest : List ℕ) (zs : List ℤ) (name : List ℕ) (z : ℤ) (after : List ℕ)
    → NumbersLeft row rest zs name
    → ((x : ℤ) (r : List ℕ) → ReadsNumber x r rest → (z ≡ x) × (after ≡ r))
    → (rest ≡ name → ⊥)
    → NumbersLeft (row ++ z ∷ []) after zs name
numbers_step row rest zs name z after s reads ends =
    numbers_more row rest zs name s.left z after s.whole s.good s.follows reads ends

numbers_last : (row : List ℤ) (rest : List ℕ) (zs : List ℤ) (name : List ℕ) (left : List ℤ)
    → row ++ left ≡ zs → AllByRecursion IsNumber left → rest ≡ numbers left ++ name
    → ((x : ℤ) (r : List ℕ) → ReadsNumber x r rest → ⊥) → (row ≡ zs) × (rest ≡ name)
numbers_last row rest zs name [] w g f none = (sym (append-nil row) ∙ w, f ∙ numbers_nil name)
numbers_last row rest zs name (x ∷ xs) w g f none =
    absurd (none x (numbers xs ++ name) (record { number = g.0; spelled = f ∙ numbers_cons x xs name }))

pub numbers_end : (row : List ℤ) (rest : List ℕ) (zs : List ℤ) (name : List ℕ)
    → NumbersLeft row rest zs name → ((x : ℤ) (r : List ℕ) → ReadsNumber x r rest → ⊥) → (row ≡ zs) × (rest ≡ name)
numbers_end row rest zs name s none = numbers_last row rest zs name s.left s.whole s.good s.follows none
