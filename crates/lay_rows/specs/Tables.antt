-- Rows of forces for bars that follow each other, and the table of a maker.
use Rattle.std.specs.Prelude.{◌≡◌, ℕ, ◌+◌, ◌-◌, ◌<◌, ◌≤◌, List, [], ◌∷◌, ◌++◌, length, slice_index_or}
use Rattle.std.proofs.Common.{arith, inl, inr, length-append, refl, subst, sym}
use Rattle.std.proofs.lemmas.Bool.{cases_lt}
use Rattle.std.proofs.lemmas.List.{get_or_append_left, get_or-append_right}

-- a row for each of n bars, the first of which is bar `from`
pub record AreRowsOf (is_row : ℕ → List ℕ → Type 0) (from n : ℕ) (rows : List (List ℕ)) : Type 0 where
  pub count : length rows ≡ n
  pub each : (k : ℕ) → k < n → is_row (from + k) (slice_index_or rows k [])

-- the table: a row for each of n bars, the first of which is bar 0
pub record IsForceTable (is_row : ℕ → List ℕ → Type 0) (n : ℕ) (rows : List (List ℕ)) : Type 0 where
  pub count : length rows ≡ n
  pub each : (a : ℕ) → a < n → is_row a (slice_index_or rows a [])

-- Consequences of the form: rows of bars that follow each other.
module _ (is_row : ℕ → List ℕ → Type 0) (from : ℕ) where
  pub rows_none : AreRowsOf is_row from 0 []
  rows_none = record { count = refl; each = λ k l. absurd (omega arith) }

  pub rows_append : (n m : ℕ) (rows more : List (List ℕ))
      → AreRowsOf is_row from n rows → AreRowsOf is_row (from + n) m more → AreRowsOf is_row from (n + m) (rows ++ more)
  rows_append n m rows more h k = record {
    count = let a = h.count in let b = k.count in let all = length-append rows more in omega arith;
    each = λ i l. elim (cases_lt i n) [
      | inl before ↦
          subst (λ row. is_row (from + i) row)
          (sym (get_or_append_left rows more [] i (let count = h.count in omega arith))) (h.each i before)
      | inr after ↦
          subst (λ row. is_row (from + i) row) (sym (get_or-append_right rows more n i [] h.count after))
          (subst (λ bar. is_row bar (slice_index_or more (i - n) [])) (omega arith) (k.each (i - n) (omega arith)))
    ];
  }

  -- with the row of bar a, after those of the bars before it
  pub rows_more : (a : ℕ) (rows : List (List ℕ)) (row : List ℕ)
      → from ≤ a → AreRowsOf is_row from (a - from) rows → is_row a row
      → AreRowsOf is_row from (a + 1 - from) (rows ++ row ∷ [])
  rows_more a rows row l h is =
      let next : (a - from) + 1 ≡ a + 1 - from = omega arith in
      subst (λ n. AreRowsOf is_row from n (rows ++ row ∷ [])) next
      (rows_append (a - from) 1 rows (row ∷ []) h
      (record {
        count = refl;
        each = λ k m. let first : k ≡ 0 = omega arith in rw first (subst (λ bar. is_row bar row) (omega arith) is);
      }))
