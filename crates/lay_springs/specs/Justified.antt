-- Columns that are set to the width, or stay ragged.
use Rattle.std.specs.Prelude.{◌≡◌, ℕ, Bool, true, false, List, Option}
use Rattle.lay_springs.specs.declared.{traits.Reach.Reach, margin.Placed.Placed}
use Rattle.lay_springs.specs.{Place.{IsPlace, StandApart}, Fit.{IsSet, is_ragged, counted}}

-- n columns at a force, as it counts: set to the width, except for a ragged last system, which stays as placed
pub record IsJustifiedAt (n : ℕ) (reach : ℕ → ℕ → Option Reach) (gaps : List ℕ) (spring : ℕ → ℕ → ℕ) (width : ℕ)
    (last : Bool) (force : ℕ) (p : Placed) : Type 0 where
  pub ragged : p.ragged ≡ is_ragged last force
  pub counted_is : p.force ≡ counted last force
  pub loose : p.ragged ≡ true → IsPlace n reach gaps (spring p.force) p.at
  pub set : p.ragged ≡ false → IsSet n reach gaps spring width p.force p.at
  pub apart : StandApart n reach gaps (spring p.force) p.at
