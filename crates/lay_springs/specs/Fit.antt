-- How much force columns can take within a width.
use Rattle.std.specs.Prelude.{◌≡◌, ℕ, ◌+◌, ◌-◌, ◌*◌, ◌/◌, Bool, ◌&&◌, nat_le, if◌then◌else◌, ◌<◌, ℤ, pos, ◌+ℤ◌, ◌≤ℤ◌}
use Rattle.std.specs.Prelude.{◌<ℤ◌, ◌^◌, ◌≤◌, List, ◌++◌, length, Option, Some, IfSome, IfNone, slice_index_or}
use Rattle.lay_springs.specs.declared.traits.Reach.{Reach}
use Rattle.lay_springs.specs.Place.{IsPlace, StandApart, reach_at, length_at}

-- e is the end of a column at `at`: the greatest of the abscissa and the right ends of its reaches
pub record IsEndOf (reach : ℕ → Option Reach) (lanes : ℕ) (at e : ℤ) : Type 0 where
  pub past : at ≤ℤ e
  pub reaches : (lane : ℕ) (r : Reach) → lane < lanes → reach lane ≡ Some r → (at +ℤ pos r.right) ≤ℤ e
  pub least : (v : ℤ)
      → at ≤ℤ v → ((lane : ℕ) (r : Reach) → lane < lanes → reach lane ≡ Some r → (at +ℤ pos r.right) ≤ℤ v) → e ≤ℤ v

-- the end of n columns at a force, placed at the least abscissas
pub record EndsAt (n : ℕ) (reach : ℕ → ℕ → Option Reach) (gaps : List ℕ) (spring : ℕ → ℕ → ℕ) (force : ℕ)
    (e : ℤ) : Type 0 where
  pub x : List ℤ
  pub place : IsPlace n reach gaps (spring force) x
  pub end : IsEndOf (reach (n - 1)) (length gaps) (slice_index_or x (n - 1) (pos 0)) e

-- the end at a force is at most the width
abbrev pub Fits : ℕ → (ℕ → ℕ → Option Reach) → List ℕ → (ℕ → ℕ → ℕ) → ℕ → ℕ → Type 0
Fits n reach gaps spring width force = (e : ℤ) × EndsAt n reach gaps spring force e × (e ≤ℤ pos width)

-- the end at a force passes the width
abbrev pub Passes : ℕ → (ℕ → ℕ → Option Reach) → List ℕ → (ℕ → ℕ → ℕ) → ℕ → ℕ → Type 0
Passes n reach gaps spring width force = (e : ℤ) × EndsAt n reach gaps spring force e × (pos width <ℤ e)

-- the abscissas of n columns at a force, set to the width: column k moves right by its part of what is left past the
-- end
pub record IsSet (n : ℕ) (reach : ℕ → ℕ → Option Reach) (gaps : List ℕ) (spring : ℕ → ℕ → ℕ) (width force : ℕ)
    (at : List ℤ) : Type 0 where
  pub x : List ℤ
  pub place : IsPlace n reach gaps (spring force) x
  pub count : length at ≡ n
  -- a lone column isn't moved
  pub alone : n ≡ 1 → at ≡ x
  pub moved : 1 < n
      → (e : ℤ)
      × (rest : ℕ)
      × IsEndOf (reach (n - 1)) (length gaps) (slice_index_or x (n - 1) (pos 0)) e
      × ((e +ℤ pos rest) ≡ pos width)
      × ((k : ℕ) → k < n → slice_index_or at k (pos 0) ≡ (slice_index_or x k (pos 0) +ℤ pos (rest * k / (n - 1))))

-- whether a system is ragged, which only a last one is; and the force that counts
abbrev pub is_ragged : Bool → ℕ → Bool
is_ragged last force = last && nat_le 256 force

abbrev pub counted : Bool → ℕ → ℕ
counted last force = if is_ragged last force then 256 else force

-- some list of abscissas keeps the columns apart at a force and within the width
pub record CanStandWithin (n : ℕ) (reach : ℕ → ℕ → Option Reach) (gaps : List ℕ) (spring : ℕ → ℕ → ℕ)
    (width force : ℕ) : Type 0 where
  pub y : List ℤ
  pub apart : StandApart n reach gaps (spring force) y
  pub past : slice_index_or y (n - 1) (pos 0) ≤ℤ pos width
  pub reaches : (lane : ℕ) (r : Reach)
      → lane < length gaps → reach (n - 1) lane ≡ Some r
      → (slice_index_or y (n - 1) (pos 0) +ℤ pos r.right) ≤ℤ pos width

-- the greatest force from 0 to `most` at which the columns end within the width; none if their end at force 0 passes it
pub record IsGreatestForce (n : ℕ) (reach : ℕ → ℕ → Option Reach) (gaps : List ℕ) (spring : ℕ → ℕ → ℕ)
    (width most : ℕ) (force : Option ℕ) : Type 0 where
  pub bound : IfSome force (λ f. f ≤ most)
  pub fits : IfSome force (Fits n reach gaps spring width)
  -- at no greater one can they even be within it
  pub greatest : IfSome force (λ f. (g : ℕ) → f < g → g ≤ most → CanStandWithin n reach gaps spring width g → ⊥)
  pub none : IfNone force (Passes n reach gaps spring width 0)

-- columns have only one such force
abbrev pub OneForce : {C : Type 0} → (C → ℕ → Option Reach) → (C → ℕ → ℕ) → Type 0
OneForce {C} reach len =
    (columns : List C) (gaps : List ℕ) (width most : ℕ) (force other : Option ℕ) → 0 < length columns → most < 2 ^ 16
    → IsGreatestForce (length columns) (reach_at reach columns) gaps (length_at len columns) width most force
    → IsGreatestForce (length columns) (reach_at reach columns) gaps (length_at len columns) width most other
    → force ≡ other

-- the most columns that can be within a width, as neighbors are 100 apart
abbrev pub most_columns : ℕ → ℕ
most_columns width = width / 100 + 1

-- a column is in each lane
abbrev pub StandsInAll : (ℕ → Option Reach) → ℕ → Type 0
StandsInAll reach lanes = (lane : ℕ) → lane < lanes → (s : Reach) × (reach lane ≡ Some s)

-- a longer list of columns, whose last is in each lane, can't be within a width if a list that it continues can't
abbrev pub LongerFitsLess : {C : Type 0} → (C → ℕ → Option Reach) → (C → ℕ → ℕ) → Type 0
LongerFitsLess {C} reach len =
    (short rest : List C) (gaps : List ℕ) (width force : ℕ)
    → 0 < length short → 0 < length rest
    → StandsInAll (reach_at reach (short ++ rest) (length (short ++ rest) - 1)) (length gaps)
    → CanStandWithin (length (short ++ rest)) (reach_at reach (short ++ rest)) gaps (length_at len (short ++ rest))
    width force
    → CanStandWithin (length short) (reach_at reach short) gaps (length_at len short) width force
