-- How many rows end before a line.
use Rattle.std.proofs.Common.{◌≡◌, ℕ, zero, suc, ◌+◌, ◌≤◌, ◌<◌, List, [], ◌∷◌, Bool, true, false, cond, drop, length}
use Rattle.std.proofs.Common.{nat_lt, refl, inl, inr, arith}
use Rattle.std.proofs.lemmas.Bool.{cases_lt, lt-ltb, le-ltb}
use Rattle.std.proofs.lemmas.List.Sums.{prefix_len-le-length}
use Rattle.std.specs.List.{prefix_len}
use Rattle.abc_words.specs.Words.{row_of}

-- counted on from some of them
pub prefix_from : {X : Type 0} (p : X → Bool) (xs : List X) (k : ℕ)
    → k ≤ prefix_len p xs → prefix_len p xs ≡ k + prefix_len p (drop k xs)
prefix_from p xs zero le = omega arith
prefix_from p [] (suc k) le = absurd (omega arith)
prefix_from p (x ∷ xs) (suc k) le = by_test (p x) (prefix_from p xs k) le where
  by_test : (b : Bool)
      → (k ≤ prefix_len p xs → prefix_len p xs ≡ k + prefix_len p (drop k xs))
      → suc k ≤ cond b (1 + prefix_len p xs) 0
      → cond b (1 + prefix_len p xs) 0 ≡ suc k + prefix_len p (drop k xs)
  by_test true more le = let rest : prefix_len p xs ≡ k + prefix_len p (drop k xs) = more (omega arith) in omega arith
  by_test false more le = absurd (omega arith)

pub row_of_within : (ends : List ℕ) (line : ℕ) → row_of ends line ≤ length ends
row_of_within ends line = prefix_len-le-length (λ e. nat_lt e line) ends

-- before a later line, as many or more
pub row_of_later : (ends : List ℕ) (line later : ℕ) → line ≤ later → row_of ends line ≤ row_of ends later
row_of_later [] line later le = omega arith
row_of_later (e ∷ ends) line later le = elim (cases_lt e line) [
  | inl lt ↦
      let less : e < later = omega arith in
      rw (lt-ltb e line lt, lt-ltb e later less)
      (let more : row_of ends line ≤ row_of ends later = row_of_later ends line later le in omega arith)
  | inr ge ↦ rw (le-ltb e line ge) (omega arith)
]

-- before line 0, none
pub row_of_zero : (ends : List ℕ) → row_of ends 0 ≡ 0
row_of_zero [] = refl
row_of_zero (e ∷ ends) = let ge : 0 ≤ e = omega arith in rw (le-ltb e 0 ge) refl
