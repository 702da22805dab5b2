-- Numbers of spans as rows: row a has those of the spans from bar a to a + 1, a + 2 and so on, up to the last that
-- fits. So a span that is longer than one that doesn't fit doesn't fit either.
use Rattle.std.specs.Prelude.{◌≡◌, ℕ, ◌-◌, ◌<◌, ◌≤◌, List, length, Option, Some, None, IfSome, All}
use Rattle.std.specs.Prelude.{option_and_then, slice_get, slice_index_or, refl}
use Rattle.std.proofs.Common.{arith, sym, ◌∙◌, inl, inr}
use Rattle.std.proofs.lemmas.Bool.{cases_lt}
use Rattle.std.proofs.lemmas.Option.{slice_get_past, slice_get_within, slice_get-get_or, get_or_from_slice_get}
use Rattle.std.proofs.lemmas.Option.{none-some}

-- what the rows have of the span from a to b
abbrev pub row_entry : List (List ℕ) → ℕ → ℕ → Option ℕ
row_entry rows a b = option_and_then (λ row. slice_get row (b - a - 1)) (slice_get rows a)

-- no entry passes a number
abbrev pub AreWithin : ℕ → List (List ℕ) → Type 0
AreWithin most rows = All (λ row. All (λ v. v ≤ most) row) rows

stop_in : (xs : List ℕ) (i j : ℕ) → i ≤ j → slice_get xs i ≡ None → slice_get xs j ≡ None
stop_in xs i j l e = elim (cases_lt j (length xs)) [
  | inl lt ↦ absurd (none-some (slice_index_or xs i 0) (sym e ∙ slice_get-get_or xs i 0 (omega arith)))
  | inr ge ↦ slice_get_past xs j ge
]

-- consequences of the form, of which the laws of costs are made
pub rows_stop : (rows : List (List ℕ)) (a b c : ℕ)
    → a < b → b < c → row_entry rows a b ≡ None → row_entry rows a c ≡ None
rows_stop rows a b c l m e = at (slice_get rows a) e
  where
    at : (o : Option (List ℕ))
        → option_and_then (λ row. slice_get row (b - a - 1)) o ≡ None
        → option_and_then (λ row. slice_get row (c - a - 1)) o ≡ None
    at None e = refl
    at (Some row) e = stop_in row (b - a - 1) (c - a - 1) (omega arith) e

pub rows_within : (most : ℕ) (rows : List (List ℕ))
    → AreWithin most rows → (a b : ℕ) → IfSome (row_entry rows a b) (λ v. v ≤ most)
rows_within most rows h a b = at (slice_get rows a) refl
  where
    one : (row : List ℕ)
        → slice_get rows a ≡ Some row → (o : Option ℕ) → slice_get row (b - a - 1) ≡ o → IfSome o (λ v. v ≤ most)
    one row e None f = tt
    one row e (Some v) f =
        let here = h a row (slice_get_within rows a row e) in
        let here' = rw (get_or_from_slice_get rows a row row e) at here in
        let k = here' (b - a - 1) v (slice_get_within row (b - a - 1) v f) in
        rw (get_or_from_slice_get row (b - a - 1) v v f) at k

    at : (o : Option (List ℕ))
        → slice_get rows a ≡ o → IfSome (option_and_then (λ row. slice_get row (b - a - 1)) o) (λ v. v ≤ most)
    at None e = tt
    at (Some row) e = one row e (slice_get row (b - a - 1)) refl
