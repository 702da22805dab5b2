-- Bytes that lack one byte, and where a list of bytes is split.
use Rattle.std.proofs.Common.{◌≡◌, ◌≢◌, ℕ, zero, suc, ◌+◌, ◌%◌, ◌<◌, ◌^◌, ◌⊎◌, inl, inr, true, false, eqb, List, []}
use Rattle.std.proofs.Common.{◌∷◌, ◌++◌, length, take, drop, Some, None, refl, sym, ◌∙◌, ap, arith, slice_index_or}
use Rattle.std.proofs.Common.{decimal}
use Rattle.std.proofs.lemmas.Bool.{eqb-true, true≢false, cases_lt}
use Rattle.std.proofs.lemmas.Option.{none-some}
use Rattle.std.proofs.lemmas.List.Quantifiers.{position-Some}
use Rattle.std.proofs.lemmas.List.Sums.{fails_before_first}
use Rattle.std.proofs.lemmas.List.{append_cancel_left}
use Rattle.std.proofs.lemmas.Fmt.{decimal_by_steps, decimal_injective}
use Rattle.std.specs.Prelude.{Option, MatchOption}
use Rattle.std.specs.List.{position, position_or_len}
use Rattle.eng_lines.specs.Lines.{Lacks}

pub lacks_both : (b : ℕ) (xs ys : List ℕ) → Lacks b xs → Lacks b ys → Lacks b (xs ++ ys)
lacks_both b [] ys h k = k
lacks_both b (x ∷ xs) ys h k = (h.0, lacks_both b xs ys h.1 k)

-- numbers consist of digits only
pub decimal_lacks : (b n : ℕ) → (b < 48) ⊎ (57 < b) → n < 2 ^ 64 → Lacks b (decimal n)
decimal_lacks b n out l = decimal_by_steps (λ n ds. Lacks b ds)
    (λ n h. (other n out h, tt))
    (λ n ds h k. let m : n % 10 < 10 = omega arith in lacks_both b ds ((48 + n % 10) ∷ []) k (other (n % 10) out m, tt))
    n l
  where
    other : (d : ℕ) → (b < 48) ⊎ (57 < b) → d < 10 → (48 + d) ≢ b
    other d (inl h) l e = omega arith
    other d (inr h) l e = omega arith

abbrev pub head_of : List ℕ → ℕ
head_of [] = 0
head_of (x ∷ xs) = x

abbrev pub tail_of : List ℕ → List ℕ
tail_of [] = []
tail_of (x ∷ xs) = xs

-- if the same list is split at the same byte twice, the parts are the same
pub one_cut : (b : ℕ) (f g r s : List ℕ) → Lacks b f → Lacks b g → f ++ b ∷ r ≡ g ++ b ∷ s → (f ≡ g) × (r ≡ s)
one_cut b [] [] r s h k e = (refl, ap tail_of e)
one_cut b [] (y ∷ g) r s h k e = absurd (k.0 (sym (ap head_of e)))
one_cut b (x ∷ f) [] r s h k e = absurd (h.0 (ap head_of e))
one_cut b (x ∷ f) (y ∷ g) r s h k e =
    let m = one_cut b f g r s h.1 k.1 (ap tail_of e) in
    let x_is : x ≡ y = ap head_of e in
    (ap (λ t. x ∷ t) m.0 ∙ ap (λ x. x ∷ g) x_is, m.1)

-- a list that lacks a byte isn't split at it
pub lacks_none : (b : ℕ) (f r s : List ℕ) → Lacks b s → s ≡ f ++ b ∷ r → ⊥
lacks_none b [] r [] h e = absurd (nothing e)
  where
    nothing : [] ≡ b ∷ r → ⊥
    nothing e = let l = ap length e in absurd (omega arith)
lacks_none b [] r (y ∷ s) h e = h.0 (ap head_of e)
lacks_none b (x ∷ f) r [] h e = let l = ap length e in absurd (omega arith)
lacks_none b (x ∷ f) r (y ∷ s) h e = lacks_none b f r s h.1 (ap tail_of e)

lacks_each : (b : ℕ) (s : List ℕ) → ((k : ℕ) → k < length s → eqb (slice_index_or s k 0) b ≡ false) → Lacks b s
lacks_each b [] h = tt
lacks_each b (x ∷ s) h = (
  λ e. true≢false (sym (same x b e) ∙ h 0 (omega arith)),
  lacks_each b s (λ k l. h (suc k) (omega arith)),
)
  where
    same : (x b : ℕ) → x ≡ b → eqb x b ≡ true
    same x b e = grind arith

-- split at the first occurrence of the byte
cut_here : (b : ℕ) (s : List ℕ) (i : ℕ)
    → i < length s → eqb (slice_index_or s i 0) b ≡ true → ((k : ℕ) → k < i → eqb (slice_index_or s k 0) b ≡ false)
    → (s ≡ take i s ++ b ∷ drop (suc i) s) × Lacks b (take i s)
cut_here b [] i l e h = absurd (omega arith)
cut_here b (x ∷ s) zero l e h = (ap (λ y. y ∷ s) (eqb-true x b e), tt)
cut_here b (x ∷ s) (suc i) l e h =
    let m = cut_here b s i (omega arith) e (λ k lt. h (suc k) (omega arith)) in
    (ap (λ t. x ∷ t) m.0, (λ q. true≢false (sym (same x b q) ∙ h 0 (omega arith)), m.1))
  where
    same : (x b : ℕ) → x ≡ b → eqb x b ≡ true
    same x b e = grind arith

pub cut_some : (b : ℕ) (s : List ℕ) (i : ℕ)
    → position (λ x. eqb x b) s ≡ Some i → (s ≡ take i s ++ b ∷ drop (i + 1) s) × Lacks b (take i s)
cut_some b s i e =
    let p = position-Some (λ x. eqb x b) s i 0 e in
    let more : i + 1 ≡ suc i = omega arith in
    rw more (cut_here b s i p.0 p.1 p.2)

pub cut_none : (b : ℕ) (s : List ℕ) → position (λ x. eqb x b) s ≡ None → Lacks b s
cut_none b s e = lacks_each b s (λ k l. elim (cases_lt (position_or_len (λ x. eqb x b) s) (length s)) [
  | inl lt ↦ absurd (none-some (position_or_len (λ x. eqb x b) s) (sym e ∙ here lt))
  | inr ge ↦ fails_before_first (λ x. eqb x b) s k 0 (omega arith)
])
  where
    here : position_or_len (λ x. eqb x b) s < length s
        → position (λ x. eqb x b) s ≡ Some (position_or_len (λ x. eqb x b) s)
    here lt = grind arith

-- if the same bytes are a number, a space and more in two ways, the two are the same
pub one_field : (a n : ℕ) (t r s : List ℕ)
    → a < 2 ^ 64 → n < 2 ^ 64 → t ≡ decimal a ++ 32 ∷ r → t ≡ decimal n ++ 32 ∷ s → (a ≡ n) × (r ≡ s)
one_field a n t r s la ln e f =
    let m = one_cut 32 (decimal a) (decimal n) r s (decimal_lacks 32 a (inl (omega arith)) la)
    (decimal_lacks 32 n (inl (omega arith)) ln) (sym e ∙ f) in
    (decimal_injective a n la ln m.0, m.1)

pub after_prefix : (p t r s : List ℕ) → t ≡ p ++ r → t ≡ p ++ s → r ≡ s
after_prefix p t r s e f = append_cancel_left p r s (sym e ∙ f)

-- a number after a prefix
pub one_from : (p t rest : List ℕ) (r : Option ℕ)
    → t ≡ p ++ rest
    → MatchOption r ((n : ℕ) → n < 2 ^ 32 → rest ≡ decimal n → ⊥) (λ n. (rest ≡ decimal n) × (n < 2 ^ 32))
    → MatchOption r ((a : ℕ) → a < 2 ^ 32 → t ≡ p ++ decimal a → ⊥) (λ a. (t ≡ p ++ decimal a) × (a < 2 ^ 32))
one_from p t rest None e h = λ a l q. h a l (after_prefix p t rest (decimal a) e q)
one_from p t rest (Some n) e h = (e ∙ ap (λ r. p ++ r) h.0, h.1)
