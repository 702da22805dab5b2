-- There is one way to read a string.
use Rattle.std.proofs.Common.{◌≡◌, ℕ, ◌+◌, ◌-◌, ◌*◌, ◌/◌, ◌%◌, ◌<◌, ◌≤◌, true, false, ◌==◌, List, [], ◌∷◌, ◌++◌}
use Rattle.std.proofs.Common.{append_assoc, Option, Some, None, refl, sym, ◌∙◌, ap, arith, IsTrue}
use Rattle.std.proofs.lemmas.Bool.Decides.{nat_tests}
use Rattle.std.proofs.lemmas.Bool.{and_parts}
use Rattle.std.specs.List.{flat_map, list_all}
use Rattle.ps_text.specs.Fields.{is_special, shown}
use Rattle.ps_text.specs.Range.{is_shown}
use Rattle.ps_text.proofs.Shown.{Sort, is_open, is_close, is_slash, is_plain, is_high, sort_of, shown_open, shown_close}
use Rattle.ps_text.proofs.Shown.{shown_slash, shown_plain, shown_octal, digit_is_plain}
use Rattle.ps_steps.specs.Tokens.{IsString}

pub octal_read : ℕ → List ℕ → Option (ℕ × List ℕ)
octal_read a [] = None
octal_read a (b ∷ []) = None
octal_read a (b ∷ c ∷ s) = Some ((a - 48) * 64 + (b - 48) * 8 + (c - 48), s)

pub escaped_read : List ℕ → Option (ℕ × List ℕ)
escaped_read [] = None
escaped_read (a ∷ s) = elim (is_special a) [ true ↦ Some (a, s) | false ↦ octal_read a s ]

-- the spelled byte that the text begins with
abbrev pub byte_read : List ℕ → Option (ℕ × List ℕ)
byte_read [] = None
byte_read (b ∷ s) =
    elim (b == 92) [ true ↦ escaped_read s | false ↦ elim (b == 41) [ true ↦ None | false ↦ Some (b, s) ] ]

-- a byte and what is left
abbrev read : ℕ → List ℕ → Option (ℕ × List ℕ)
read b s = Some (b, s)

pair_is : (a b : ℕ) (s : List ℕ) → a ≡ b → read a s ≡ read b s
pair_is a b s e = ap (λ x. read x s) e

plain_read : (b : ℕ) (s : List ℕ) → (b == 92) ≡ false → (b == 41) ≡ false → byte_read (b ∷ s) ≡ Some (b, s)
plain_read b s e f =
    ap (λ x. elim x as (λ _. Option (ℕ × List ℕ)) [
      | true ↦ escaped_read s
      | false ↦ elim (b == 41) as (λ _. Option (ℕ × List ℕ)) [ true ↦ None | false ↦ Some (b, s) ]
    ]) e
    ∙ ap (λ x. elim x as (λ _. Option (ℕ × List ℕ)) [ true ↦ None | false ↦ Some (b, s) ]) f

octal_is : (a : ℕ) (s : List ℕ) → is_special a ≡ false → escaped_read (a ∷ s) ≡ octal_read a s
unfolding escaped_read
octal_is a s e = ap (λ x. elim x as (λ _. Option (ℕ × List ℕ)) [ true ↦ Some (a, s) | false ↦ octal_read a s ]) e

-- a closing parenthesis spells no byte
pub close_read : (r : List ℕ) → byte_read (41 ∷ r) ≡ None
close_read r = refl

-- the spelling of a byte is read as that byte
pub read_shown : (b : ℕ) (rest : List ℕ) → IsTrue (is_shown b) → byte_read (shown b ++ rest) ≡ Some (b, rest)
unfolding octal_read escaped_read
read_shown b rest h = by_sort (sort_of b h)
  where
    high : 160 ≤ b → b < 256 → byte_read (shown b ++ rest) ≡ Some (b, rest)
    high l m =
        ap (λ x. byte_read (x ++ rest)) (shown_octal b l)
        ∙ (octal_is (48 + b / 64) ((48 + b / 8 % 8) ∷ (48 + b % 8) ∷ rest) (digit_is_plain b m)
        ∙ pair_is _ b rest (omega arith))

    special : (k : ℕ)
        → shown k ≡ 92 ∷ k ∷ [] → is_special k ≡ true → b ≡ k → byte_read (shown b ++ rest) ≡ Some (b, rest)
    special k e t q =
        rw q (ap (λ x. byte_read (x ++ rest)) e
        ∙ ap (λ x. elim x as (λ _. Option (ℕ × List ℕ)) [ true ↦ Some (k, rest) | false ↦ octal_read k rest ]) t)

    by_sort : Sort b → byte_read (shown b ++ rest) ≡ Some (b, rest)
    by_sort (is_open e) = special 40 shown_open refl e
    by_sort (is_close e) = special 41 shown_close refl e
    by_sort (is_slash e) = special 92 shown_slash refl e
    by_sort (is_plain l p q r) =
        ap (λ x. byte_read (x ++ rest)) (shown_plain b l p q r)
        ∙ plain_read b rest (grind (arith, nat_tests)) (grind (arith, nat_tests))
    by_sort (is_high l m) = high l m

some_parts : (b c : ℕ) (s t : List ℕ) → read b s ≡ read c t → (b ≡ c) × (s ≡ t)
some_parts b c s t e = (ap (λ o. left_of o) e, ap (λ o. right_of o) e)
  where
    left_of : Option (ℕ × List ℕ) → ℕ
    left_of None = 0
    left_of (Some p) = p.0

    right_of : Option (ℕ × List ℕ) → List ℕ
    right_of None = []
    right_of (Some p) = p.1

none_some : (p : ℕ × List ℕ) → None ≡ Some p → ⊥
none_some p e = cc

-- a byte is spelled in one way, and no spelling is a proper prefix of another
pub one_byte : (b c : ℕ) (s t : List ℕ)
    → IsTrue (is_shown b) → IsTrue (is_shown c) → shown b ++ s ≡ shown c ++ t → (b ≡ c) × (s ≡ t)
one_byte b c s t h k e = some_parts b c s t (sym (read_shown b s h) ∙ (ap byte_read e ∙ read_shown c t k))

-- nor does a spelling begin with a closing parenthesis
pub not_close : (b : ℕ) (s t : List ℕ) → IsTrue (is_shown b) → shown b ++ s ≡ 41 ∷ t → ⊥
not_close b s t h e = none_some (b, s) (sym (close_read t) ∙ (ap byte_read (sym e) ∙ read_shown b s h))

pub one_words : (w v r q : List ℕ)
    → list_all is_shown w ≡ true → list_all is_shown v ≡ true → flat_map shown w ++ 41 ∷ r ≡ flat_map shown v ++ 41 ∷ q
    → (w ≡ v) × (r ≡ q)
one_words [] [] r q a b e = (refl, ap tail e)
  where
    tail : List ℕ → List ℕ
    tail [] = []
    tail (x ∷ s) = s
one_words [] (c ∷ v) r q a b e =
    absurd (not_close c (flat_map shown v ++ 41 ∷ q) r (and_parts (is_shown c) (list_all is_shown v) b).0
    (sym (e ∙ append_assoc (shown c) (flat_map shown v) (41 ∷ q))))
one_words (x ∷ w) [] r q a b e =
    absurd (not_close x (flat_map shown w ++ 41 ∷ r) q (and_parts (is_shown x) (list_all is_shown w) a).0
    (sym (append_assoc (shown x) (flat_map shown w) (41 ∷ r)) ∙ e))
one_words (x ∷ w) (c ∷ v) r q a b e =
    let p = one_byte x c (flat_map shown w ++ 41 ∷ r) (flat_map shown v ++ 41 ∷ q)
    (and_parts (is_shown x) (list_all is_shown w) a).0 (and_parts (is_shown c) (list_all is_shown v) b).0
    (sym (append_assoc (shown x) (flat_map shown w) (41 ∷ r))
    ∙ (e ∙ append_assoc (shown c) (flat_map shown v) (41 ∷ q))) in
    let rest = one_words w v r q (and_parts (is_shown x) (list_all is_shown w) a).1
    (and_parts (is_shown c) (list_all is_shown v) b).1 p.1 in
    (ap (λ y. y ∷ w) p.0 ∙ ap (λ t. c ∷ t) rest.0, rest.1)

-- a text begins with a string in one way
pub one_string : (s w r v q : List ℕ) → IsString s w r → IsString s v q → (w ≡ v) × (r ≡ q)
one_string s w r v q a b = one_words w v r q a.good b.good (sym a.spelled ∙ b.spelled)
