-- The columns of measures in a system. `starts` has the columns of each measure in a system that begins with it,
-- `others` in one that doesn't. The span from bar a to bar b has the measures a to b - 1, counted from 0.
use Rattle.std.specs.Prelude.{◌≡◌, ℕ, ◌+◌, ◌-◌, ◌<◌, ◌≤◌, List, [], ◌∷◌, length, take, drop, flat_map, slice_index_or}
use Rattle.std.specs.Prelude.{Option}
use Rattle.lay_springs.specs.{declared.traits.Reach.Reach, Place.reach_at, Fit.StandsInAll}

-- the measures of a system that begins at bar a
abbrev pub measures_from : {C : Type 0} → List (List C) → List (List C) → ℕ → List (List C)
measures_from starts others a = slice_index_or starts a [] ∷ drop (a + 1) others

-- the columns of the span from bar a to bar b
abbrev pub span_columns : {C : Type 0} → List (List C) → List (List C) → ℕ → ℕ → List C
span_columns starts others a b = flat_map (λ measure. measure) (take (b - a) (measures_from starts others a))

-- a list of columns, the last of which is in each lane
pub record EndsInAll {C : Type 0} (reach : C → ℕ → Option Reach) (lanes : ℕ) (columns : List C) : Type 0 where
  pub some : 0 < length columns
  pub last : StandsInAll (reach_at reach columns (length columns - 1)) lanes

-- the columns of the measures of a tune: each measure has some, and those that don't begin a system end with one that
-- is in each lane
pub record AreMeasures {C : Type 0} (reach : C → ℕ → Option Reach) (lanes : ℕ)
    (starts others : List (List C)) : Type 0 where
  pub same : length others ≡ length starts
  pub few : length starts ≤ 4000
  pub begun : (m : ℕ) → m < length starts → 0 < length (slice_index_or starts m [])
  pub ended : (m : ℕ) → m < length starts → EndsInAll reach lanes (slice_index_or others m [])
