-- The placing of columns: the least list of abscissas that keeps them apart.
use Rattle.std.specs.Prelude.{◌≡◌, ℕ, ◌+◌, ◌*◌, ◌/◌, ◌^◌, ◌⊎◌, min, MatchOption, ◌<◌, ◌≤◌, ℤ, pos, negsuc, ◌+ℤ◌, ◌≤ℤ◌}
use Rattle.std.specs.Prelude.{List, length, Option, Some, option_map, option_and_then, unwrap_or, slice_get}
use Rattle.std.specs.Prelude.{slice_index, slice_index_or}
use Rattle.lay_springs.specs.declared.{traits.Reach.Reach, progress.Progress.Progress}

-- the reach of column i in a lane
abbrev pub reach_at : {C : Type 0} → (C → ℕ → Option Reach) → List C → ℕ → ℕ → Option Reach
reach_at reach cols i lane = option_and_then (λ c. reach c lane) (slice_get cols i)

-- the length of the spring at column i
abbrev pub length_at : {C : Type 0} → (C → ℕ → ℕ) → List C → ℕ → ℕ → ℕ
length_at len cols force i = unwrap_or (option_map (λ c. len c force) (slice_get cols i)) 0

-- a column at v is clear of a column before it at `at`: in each lane that both are in, its gap is between them
abbrev pub IsClear : (ℕ → Option Reach) → (ℕ → Option Reach) → List ℕ → ℕ → ℤ → ℤ → Type 0
IsClear first second gaps lanes at v =
    (lane : ℕ) (r s : Reach) → lane < lanes → first lane ≡ Some r → second lane ≡ Some s
    → (at +ℤ pos (r.right + slice_index gaps lane + s.left)) ≤ℤ v

-- a column at v begins at 0 or later, in each lane too
abbrev pub IsInside : (ℕ → Option Reach) → ℕ → ℤ → Type 0
IsInside reach lanes v = (lane : ℕ) (s : Reach) → lane < lanes → reach lane ≡ Some s → pos s.left ≤ℤ v

-- v is the least such abscissa of a column
pub record IsFirst (reach : ℕ → Option Reach) (lanes : ℕ) (v : ℤ) : Type 0 where
  pub begins : pos 0 ≤ℤ v
  pub inside : IsInside reach lanes v
  pub least : (w : ℤ) → pos 0 ≤ℤ w → IsInside reach lanes w → v ≤ℤ w

-- the first n columns, at the first n abscissas of x, are apart
pub record StandApart (n : ℕ) (reach : ℕ → ℕ → Option Reach) (gaps : List ℕ) (spring : ℕ → ℕ)
    (x : List ℤ) : Type 0 where
  pub begins : 0 < n → pos 0 ≤ℤ slice_index_or x 0 (pos 0)
  pub head : 0 < n → IsInside (reach 0) (length gaps) (slice_index_or x 0 (pos 0))
  pub lanes : (i j : ℕ) → i < j → j < n
      → IsClear (reach i) (reach j) gaps (length gaps) (slice_index_or x i (pos 0)) (slice_index_or x j (pos 0))
  -- neighbors are 100 apart
  pub steps : (i : ℕ) → i + 1 < n → (slice_index_or x i (pos 0) +ℤ pos 100) ≤ℤ slice_index_or x (i + 1) (pos 0)
  -- and at least as far apart as the spring between them is long
  pub springs : (i : ℕ) → i + 1 < n → (slice_index_or x i (pos 0) +ℤ pos (spring i)) ≤ℤ slice_index_or x (i + 1) (pos 0)

-- no list that keeps n columns apart is below x
abbrev pub IsBelowAll : ℕ → (ℕ → ℕ → Option Reach) → List ℕ → (ℕ → ℕ) → List ℤ → Type 0
IsBelowAll n reach gaps spring x =
    (y : List ℤ)
    → StandApart n reach gaps spring y → (k : ℕ) → k < n → slice_index_or x k (pos 0) ≤ℤ slice_index_or y k (pos 0)

-- how much nearer columns can come if the force falls by `drop`: `count` tight springs, whose natural lengths sum to
-- `natural`, and whose lengths count as whole u
abbrev pub slack : ℕ → ℕ → ℕ → ℕ
slack natural count drop = (natural * drop + 255 * min count (natural * drop)) / 256

-- the length of the spring at each of the first j columns is at any force this part of its natural length, the one at
-- force 256
abbrev pub AreLinear : ℕ → (ℕ → ℕ → ℕ) → Type 0
AreLinear j spring = (force i : ℕ) → i < j → spring force i ≡ spring 256 i * force / 256

-- no list that keeps n columns apart at a force that is less by `drop` is further below x than this slack
abbrev pub IsNearLeast : ℕ → (ℕ → ℕ → Option Reach) → List ℕ → (ℕ → ℕ → ℕ) → ℕ → ℕ → ℕ → List ℤ → Type 0
IsNearLeast n reach gaps spring force natural count x =
    (g drop : ℕ) (y : List ℤ) → g + drop ≡ force → StandApart n reach gaps (spring g) y
    → (k : ℕ) → k < n → slice_index_or x k (pos 0) ≤ℤ (slice_index_or y k (pos 0) +ℤ pos (slack natural count drop))

-- x is the pointwise least of the lists that keep the columns apart
pub record IsPlace (n : ℕ) (reach : ℕ → ℕ → Option Reach) (gaps : List ℕ) (spring : ℕ → ℕ) (x : List ℤ) : Type 0 where
  pub count : length x ≡ n
  pub apart : StandApart n reach gaps spring x
  pub least : IsBelowAll n reach gaps spring x

-- the first j columns are placed at a force; these tight springs tell how near they come at a lesser one, if their
-- springs are linear
pub record IsPlacedTo (j : ℕ) (reach : ℕ → ℕ → Option Reach) (gaps : List ℕ) (spring : ℕ → ℕ → ℕ)
    (force natural count : ℕ) (x : List ℤ) : Type 0 where
  pub apart : StandApart j reach gaps (spring force) x
  pub first : 0 < j → IsFirst (reach 0) (length gaps) (slice_index_or x 0 (pos 0))
  pub least : IsBelowAll j reach gaps (spring force) x
  pub near : AreLinear j spring → IsNearLeast j reach gaps spring force natural count x
  pub small : (k : ℕ)
      → k < j → (pos 0 ≤ℤ slice_index_or x k (pos 0)) × (slice_index_or x k (pos 0) ≤ℤ pos (1048576 + 3145728 * k))

-- the lane has a column, or the frontier is further to the left than any rod reaches
abbrev pub IsSomewhere : ℤ → Type 0
IsSomewhere end = (pos 0 ≤ℤ end) ⊎ (end ≤ℤ negsuc 1099511627775)

-- front has for each lane the greatest abscissa plus right reach of the first j columns in it, or a number far below
-- 0 if none is in it
pub record AreFrontiers (j : ℕ) (reach : ℕ → ℕ → Option Reach) (lanes : ℕ) (x front : List ℤ) : Type 0 where
  pub covers : (lane k : ℕ) (r : Reach)
      → lane < lanes → k < j → reach k lane ≡ Some r
      → (slice_index_or x k (pos 0) +ℤ pos r.right) ≤ℤ slice_index_or front lane (pos 0)
  pub stands : (lane : ℕ) → lane < lanes → pos 0 ≤ℤ slice_index_or front lane (pos 0)
      → (k : ℕ)
      × (r : Reach)
      × (k < j)
      × (reach k lane ≡ Some r)
      × (slice_index_or front lane (pos 0) ≡ (slice_index_or x k (pos 0) +ℤ pos r.right))
  pub apart : (lane : ℕ) → lane < lanes → IsSomewhere (slice_index_or front lane (pos 0))
  pub small : (lane : ℕ) → lane < lanes → slice_index_or front lane (pos 0) ≤ℤ pos (2 ^ 61)

-- the columns that the progress counts, of n, are placed, and fronts has the frontier of each lane
pub record HasPlaced (n : ℕ) (reach : ℕ → ℕ → Option Reach) (gaps : List ℕ) (spring : ℕ → ℕ → ℕ) (p : Progress)
    (x fronts : List ℤ) : Type 0 where
  pub within : p.count ≤ n
  pub tight : (p.tight.natural ≤ 1048576 * p.count) × (p.tight.count ≤ p.count)
  pub placed : IsPlacedTo p.count reach gaps spring p.force p.tight.natural p.tight.count x
  pub front : 0 < p.count → AreFrontiers p.count reach (length gaps) x fronts

-- a column at v is clear of the frontier of each lane
abbrev pub IsPast : (ℕ → Option Reach) → List ℕ → ℕ → List ℤ → ℤ → Type 0
IsPast reach gaps lanes front v =
    (lane : ℕ) (s : Reach) → lane < lanes → reach lane ≡ Some s → pos 0 ≤ℤ slice_index_or front lane (pos 0)
    → (slice_index_or front lane (pos 0) +ℤ pos (slice_index gaps lane + s.left)) ≤ℤ v

-- the effect of a column at `at` on the frontier of a lane
abbrev pub Advances : Option Reach → ℤ → ℤ → ℤ → Type 0
Advances o at old new =
    MatchOption o (new ≡ old)
    (λ r. (old ≤ℤ new) × ((at +ℤ pos r.right) ≤ℤ new) × ((new ≡ old) ⊎ (new ≡ (at +ℤ pos r.right))))
