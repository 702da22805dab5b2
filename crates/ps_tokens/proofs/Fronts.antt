-- The longest run at the start of a list.
use Rattle.std.proofs.Common.{◌≡◌, ℕ, ◌+◌, Bool, true, false, cond, List, [], ◌∷◌, ◌++◌, take, drop, get_or, length}
use Rattle.std.proofs.Common.{◌≤◌, refl, sym, ◌∙◌, ap, arith, true≢false}
use Rattle.std.proofs.Math.Numerals.{one-add}
use Rattle.std.proofs.lemmas.Bool.{and_parts}
use Rattle.std.specs.List.{list_all, prefix_len}
use Rattle.ps_steps.specs.Tokens.{begins, is_regular, is_name, IsWord}

pub run_passes : (p : ℕ → Bool) (s : List ℕ) → list_all p (take (prefix_len p s) s) ≡ true
run_passes p [] = refl
run_passes p (b ∷ s) = by_test (p b) refl (run_passes p s)
  where
    by_test : (t : Bool) → p b ≡ t → list_all p (take (prefix_len p s) s) ≡ true
        → list_all p (take (cond (p b) (1 + prefix_len p s) 0) (b ∷ s)) ≡ true
    by_test true e h = rw (e, one-add (prefix_len p s), e) h
    by_test false e h = rw e refl

pub run_stops : (p : ℕ → Bool) (s : List ℕ) → begins p (drop (prefix_len p s) s) ≡ false
run_stops p [] = refl
run_stops p (b ∷ s) = by_test (p b) refl (run_stops p s)
  where
    by_test : (t : Bool) → p b ≡ t → begins p (drop (prefix_len p s) s) ≡ false
        → begins p (drop (cond (p b) (1 + prefix_len p s) 0) (b ∷ s)) ≡ false
    by_test true e h = rw (e, one-add (prefix_len p s)) h
    by_test false e h = rw e e

-- a list begins with one longest run
pub one_run : (p : ℕ → Bool) (w v r q : List ℕ)
    → list_all p w ≡ true → list_all p v ≡ true → begins p r ≡ false → begins p q ≡ false → w ++ r ≡ v ++ q
    → (w ≡ v) × (r ≡ q)
one_run p [] [] r q a b c d e = (refl, e)
one_run p [] (x ∷ v) r q a b c d e =
    absurd (true≢false (sym (and_parts (p x) (list_all p v) b).0 ∙ (ap (begins p) (sym e) ∙ c)))
one_run p (x ∷ w) [] r q a b c d e =
    absurd (true≢false (sym (and_parts (p x) (list_all p w) a).0 ∙ (ap (begins p) e ∙ d)))
one_run p (x ∷ w) (y ∷ v) r q a b c d e =
    let h : x ≡ y = ap (λ s. get_or s 0 0) e in
    let m =
    one_run p w v r q (and_parts (p x) (list_all p w) a).1 (and_parts (p y) (list_all p v) b).1 c d (ap (drop 1) e) in
    (ap (λ t. x ∷ t) m.0 ∙ ap (λ z. z ∷ v) h, m.1)

-- if the longest word isn't a name, no word is
pub no_name : (s w r : List ℕ)
    → s ≡ w ++ r → list_all is_regular w ≡ true → begins is_regular r ≡ false → is_name w ≡ false → (v q : List ℕ)
    → IsWord s v q → is_name v ≡ true
    → ⊥
no_name s w r e a m n v q i t =
    let u = one_run is_regular w v r q a i.regular m i.maximal (sym e ∙ i.cut) in
    true≢false (sym t ∙ (sym (ap is_name u.0) ∙ n))

pub name_some : (w : List ℕ) → is_name w ≡ true → 1 ≤ length w
name_some [] e = absurd (true≢false (sym e))
name_some (b ∷ w) e = omega arith

-- the longest run of a text that begins with a regular byte is a word
pub run_word : (s w r : List ℕ)
    → s ≡ w ++ r → list_all is_regular w ≡ true → begins is_regular r ≡ false → begins is_regular s ≡ true
    → IsWord s w r
run_word s [] r e a m b = absurd (true≢false (sym b ∙ (ap (begins is_regular) e ∙ m)))
run_word s (x ∷ w) r e a m b = record { some = omega arith; regular = a; cut = e; maximal = m }
