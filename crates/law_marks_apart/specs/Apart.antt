-- Boxes of marks at the abscissas of their columns: those of one lane of a staff in different columns are at least
-- the lane's gap apart, and each box of a lane is within the width. Loose marks are in no lane.
use Rattle.std.specs.Prelude.{◌≡◌, ℕ, ◌<◌, ℤ, pos, ◌+ℤ◌, ◌≤ℤ◌, List, Some, Contains}
use Rattle.mus_laid.specs.Boxes.{sides_of}
use Rattle.mus_laid.specs.declared.boxes.Sides.{Sides}
use Rattle.mus_laid.specs.declared.laid.Laid.{Laid}
use Rattle.mus_laid.specs.declared.laid.Lane.{Lane}
use Rattle.lay_reaches.specs.Distances.{main_gap, other_gap}
use Rattle.lay_reaches.specs.Reaches.{rank_of_mark}
use Rattle.lay_tune.specs.Systems.{x_at}

-- the gap that marks keep in a lane
abbrev pub gap_of : Lane → ℕ
gap_of Lane.Main = main_gap
gap_of _ = other_gap

-- a lane keeps its marks apart
abbrev pub Keeps : Lane → Type 0
Keeps Lane.Loose = ⊥
Keeps _ = Unit {0}

-- a mark of a lane that has a box at a rank
pub record IsBoxed (x : Laid) (rank : ℕ) (box : Sides) : Type 0 where
  pub keeps : Keeps x.lane
  pub rank_is : rank_of_mark x.mark ≡ Some rank
  pub box_is : sides_of x.mark ≡ Some box

-- the marks of a staff
pub record AreApart (width : ℕ) (at : List ℤ) (all : List Laid) : Type 0 where
  pub apart : (x y : Laid) (r q : ℕ) (first second : Sides)
      → Contains all x → Contains all y → IsBoxed x r first → IsBoxed y q second
      → x.lane ≡ y.lane → r < q → ((x_at at r +ℤ first.right) +ℤ pos (gap_of x.lane)) ≤ℤ (x_at at q +ℤ second.left)
  pub within : (x : Laid) (r : ℕ) (box : Sides)
      → Contains all x → IsBoxed x r box → (pos 0 ≤ℤ (x_at at r +ℤ box.left)) × ((x_at at r +ℤ box.right) ≤ℤ pos width)
