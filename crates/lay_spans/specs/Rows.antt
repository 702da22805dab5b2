-- The forces of the spans from each bar as a row, and rows as a list of spans.
use Rattle.std.specs.Prelude.{◌≡◌, ℕ, ◌+◌, ◌<◌, ◌≤◌, ◌==◌, Bool, List, [], ◌∷◌, ◌++◌, length, slice_index, Option, Some}
use Rattle.lay_springs.specs.declared.traits.Reach.{Reach}
use Rattle.lay_breaks.specs.declared.costs.Span.{Span}
use Rattle.lay_rows.specs.{Badness.{badness_of}, Costs.{force_in}}
use Rattle.lay_spans.specs.SpanList.{HasForce, IsNoSpan}

-- the row has the forces of the spans from bar a to a + 1, a + 2 and so on, up to the longest that fits
pub record IsRowFrom {C : Type 0} (reach : C → ℕ → Option Reach) (len : C → ℕ → ℕ) (gaps : List ℕ) (width : ℕ)
    (starts others : List (List C)) (forced : ℕ → Bool) (a : ℕ) (row : List ℕ) : Type 0 where
  pub within : a + length row ≤ length starts
  pub each : (k : ℕ)
      → k < length row → HasForce reach len gaps width starts others forced a (a + 1 + k) (slice_index row k)
  pub stops : (b : ℕ) → a + length row < b → b ≤ length starts → IsNoSpan reach len gaps width starts others forced a b

-- each force that the rows have is that of its span
abbrev pub HaveForces : {C : Type 0}
    → (C → ℕ → Option Reach) → (C → ℕ → ℕ) → List ℕ → ℕ → List (List C) → List (List C) → (ℕ → Bool) → List (List ℕ)
    → Type 0
HaveForces reach len gaps width starts others forced rows =
    (a b force : ℕ)
    → a < b → b ≤ length starts → force_in rows a b ≡ Some force
    → HasForce reach len gaps width starts others forced a b force

-- the spans from bar a to b, b + 1 and so on, each with the badness of its force in the row; the last bar is n
abbrev pub row_spans : ℕ → ℕ → ℕ → List ℕ → List Span
row_spans n a b [] = []
row_spans n a b (force ∷ forces) =
    record { a = a; b = b; badness = badness_of (b == n) force } ∷ row_spans n a (b + 1) forces

-- the spans of the rows of the bars from a on
abbrev pub rows_spans : ℕ → ℕ → List (List ℕ) → List Span
rows_spans n a [] = []
rows_spans n a (row ∷ rows) = row_spans n a (a + 1) row ++ rows_spans n (a + 1) rows
