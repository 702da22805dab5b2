-- The conditions on a system before it is drawn.
use Rattle.std.specs.Prelude.{ℕ, ◌^◌, ◌≤◌, ℤ, pos, ◌+ℤ◌, ◌≤ℤ◌}

-- the top of a system, above the foot of its page
pub record IsTop (top : ℤ) : Type 0 where
  pub low : pos 0 ≤ℤ top
  pub high : top ≤ℤ pos (2 ^ 39)

-- a height above the foot of a page, or an abscissa from its left
pub record IsOnPage (z : ℤ) : Type 0 where
  pub low : pos 0 ≤ℤ z
  pub high : z ≤ℤ pos (2 ^ 39)

-- a base, counted from the top of its system, so that the lowest line of its staff lies on the page
pub record IsBase (top base : ℤ) : Type 0 where
  pub low : pos 0 ≤ℤ (top +ℤ base)
  pub high : (top +ℤ base) ≤ℤ pos (2 ^ 39)

-- the lines of a staff have a length of 1 to 2^31
pub record IsWidth (width : ℕ) : Type 0 where
  pub some : 1 ≤ width
  pub most : width ≤ 2 ^ 31
