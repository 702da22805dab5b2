-- The spans of measures that fit within a width, and the cost of each.
use Rattle.std.specs.Prelude.{◌≡◌, ℕ, ◌<◌, ◌≤◌, ◌⊎◌, ◌==◌, Bool, List, length, Option, Some, None, IsSome}
use Rattle.lay_springs.specs.declared.traits.Reach.{Reach}
use Rattle.lay_springs.specs.Place.{reach_at, length_at}
use Rattle.lay_springs.specs.Fit.{Fits, CanStandWithin, IsGreatestForce}
use Rattle.lay_breaks.specs.declared.costs.Span.{Span}
use Rattle.lay_breaks.specs.Spans.{listed}
use Rattle.lay_rows.specs.Badness.{badness_of}
use Rattle.lay_spans.specs.{Columns.span_columns, Forced.ForcedInside}

-- the end of the columns at a force is at most the width
abbrev pub FitsAt : {C : Type 0} → (C → ℕ → Option Reach) → (C → ℕ → ℕ) → List ℕ → ℕ → ℕ → List C → Type 0
FitsAt reach len gaps width force columns =
    Fits (length columns) (reach_at reach columns) gaps (length_at len columns) width force

-- some list of abscissas keeps the columns apart at a force and within the width
abbrev pub FitsAtForce : {C : Type 0} → (C → ℕ → Option Reach) → (C → ℕ → ℕ) → List ℕ → ℕ → ℕ → List C → Type 0
FitsAtForce reach len gaps width force columns =
    CanStandWithin (length columns) (reach_at reach columns) gaps (length_at len columns) width force

-- force is the greatest from 0 to 2048 at which the columns end within the width
abbrev pub IsForce : {C : Type 0} → (C → ℕ → Option Reach) → (C → ℕ → ℕ) → List ℕ → ℕ → List C → ℕ → Type 0
IsForce reach len gaps width columns force =
    IsGreatestForce (length columns) (reach_at reach columns) gaps (length_at len columns) width 2048 (Some force)

-- the span from bar a to bar b fits with a force: no forced bar is strictly inside, and the force is its columns' own
pub record HasForce {C : Type 0} (reach : C → ℕ → Option Reach) (len : C → ℕ → ℕ) (gaps : List ℕ) (width : ℕ)
    (starts others : List (List C)) (forced : ℕ → Bool) (a b force : ℕ) : Type 0 where
  pub free : ForcedInside forced a b → ⊥
  pub pressed : IsForce reach len gaps width (span_columns starts others a b) force

-- the span from bar a to bar b fits and costs v: no forced bar is strictly inside, and v is the badness of its force
pub record IsCost {C : Type 0} (reach : C → ℕ → Option Reach) (len : C → ℕ → ℕ) (gaps : List ℕ) (width : ℕ)
    (starts others : List (List C)) (forced : ℕ → Bool) (a b v : ℕ) : Type 0 where
  pub free : ForcedInside forced a b → ⊥
  pub pressed : (force : ℕ)
      × IsForce reach len gaps width (span_columns starts others a b) force
      × (v ≡ badness_of (b == length starts) force)

-- the span from bar a to bar b doesn't fit: a forced bar is strictly inside, or its columns pass the width even at
-- force 0
abbrev pub IsNoSpan : {C : Type 0}
    → (C → ℕ → Option Reach) → (C → ℕ → ℕ) → List ℕ → ℕ → List (List C) → List (List C) → (ℕ → Bool) → ℕ → ℕ → Type 0
IsNoSpan reach len gaps width starts others forced a b =
    ForcedInside forced a b ⊎ (FitsAtForce reach len gaps width 0 (span_columns starts others a b) → ⊥)

-- the list has each span that fits, with its cost, and no other
pub record IsSpanList {C : Type 0} (reach : C → ℕ → Option Reach) (len : C → ℕ → ℕ) (gaps : List ℕ) (width : ℕ)
    (starts others : List (List C)) (forced : ℕ → Bool) (spans : List Span) : Type 0 where
  pub each : (a b v : ℕ)
      → a < b → b ≤ length starts → listed spans a b ≡ Some v → IsCost reach len gaps width starts others forced a b v
  pub fits : (a b : ℕ) → a < b → b ≤ length starts → (ForcedInside forced a b → ⊥)
      → FitsAtForce reach len gaps width 0 (span_columns starts others a b)
      → IsSome (listed spans a b)
  pub stops : (a b : ℕ)
      → a < b → b ≤ length starts → listed spans a b ≡ None → IsNoSpan reach len gaps width starts others forced a b
