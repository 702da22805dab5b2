-- Columns with the gaps that they keep, as one value. Each definition is the one that it names, of these columns.
use Rattle.std.specs.Prelude.{ℕ, ℤ, Bool, List, Option, length}
use Rattle.lay_springs.specs.declared.{traits.Reach.Reach, columns.SpacedColumns.SpacedColumns}
use Rattle.lay_springs.specs.declared.{progress.Progress.Progress, margin.Placed.Placed}
use Rattle.lay_springs.specs.Place.{reach_at, length_at, HasPlaced, IsNearLeast, IsPlace, StandApart}
use Rattle.lay_springs.specs.Fit.{CanStandWithin, EndsAt, Fits, IsGreatestForce, IsSet, Passes}
use Rattle.lay_springs.specs.Justified.{IsJustifiedAt}

module _ {C : Type 0} (reach : C → ℕ → Option Reach) (len : C → ℕ → ℕ) (columns : SpacedColumns C) where
  -- x is the pointwise least of the lists that keep them apart at a force
  abbrev pub HavePlace : ℕ → List ℤ → Type 0
  HavePlace force x = IsPlace (length columns.cols.now) (reach_at reach columns.cols.now) columns.gaps.list.now
      (length_at len columns.cols.now force) x

  -- those that the progress counts are placed, and fronts has the frontier of each lane
  abbrev pub HavePlaced : Progress → List ℤ → List ℤ → Type 0
  HavePlaced p x fronts = HasPlaced (length columns.cols.now) (reach_at reach columns.cols.now) columns.gaps.list.now
      (length_at len columns.cols.now) p x fronts

  -- no list that keeps them apart at a force that is less by `drop` is further below x than the slack
  abbrev pub StayNear : ℕ → ℕ → ℕ → List ℤ → Type 0
  StayNear force natural count x =
      IsNearLeast (length columns.cols.now) (reach_at reach columns.cols.now) columns.gaps.list.now
      (length_at len columns.cols.now) force natural count x

  -- x keeps them apart at a force
  abbrev pub KeepApart : ℕ → List ℤ → Type 0
  KeepApart force x = StandApart (length columns.cols.now) (reach_at reach columns.cols.now) columns.gaps.list.now
      (length_at len columns.cols.now force) x

  -- e is their end at a force
  abbrev pub HaveEnd : ℕ → ℤ → Type 0
  HaveEnd force e = EndsAt (length columns.cols.now) (reach_at reach columns.cols.now) columns.gaps.list.now
      (length_at len columns.cols.now) force e

  -- their end at a force is at most the width
  abbrev pub FitAt : ℕ → ℕ → Type 0
  FitAt width force = Fits (length columns.cols.now) (reach_at reach columns.cols.now) columns.gaps.list.now
      (length_at len columns.cols.now) width force

  -- their end at a force passes the width
  abbrev pub PassAt : ℕ → ℕ → Type 0
  PassAt width force = Passes (length columns.cols.now) (reach_at reach columns.cols.now) columns.gaps.list.now
      (length_at len columns.cols.now) width force

  -- some list keeps them apart at a force and within the width
  abbrev pub CanStand : ℕ → ℕ → Type 0
  CanStand width force =
      CanStandWithin (length columns.cols.now) (reach_at reach columns.cols.now) columns.gaps.list.now
      (length_at len columns.cols.now) width force

  -- the greatest force from 0 to `most` at which they end within the width
  abbrev pub HaveGreatest : ℕ → ℕ → Option ℕ → Type 0
  HaveGreatest width most force =
      IsGreatestForce (length columns.cols.now) (reach_at reach columns.cols.now) columns.gaps.list.now
      (length_at len columns.cols.now) width most force

  -- `at` sets them to the width at a force
  abbrev pub AreSetTo : ℕ → ℕ → List ℤ → Type 0
  AreSetTo width force at = IsSet (length columns.cols.now) (reach_at reach columns.cols.now) columns.gaps.list.now
      (length_at len columns.cols.now) width force at

  -- at a force, as it counts: set to the width, or a ragged last system
  abbrev pub AreJustified : ℕ → Bool → ℕ → Placed → Type 0
  AreJustified width last force placed =
      IsJustifiedAt (length columns.cols.now) (reach_at reach columns.cols.now) columns.gaps.list.now
      (length_at len columns.cols.now) width last force placed
