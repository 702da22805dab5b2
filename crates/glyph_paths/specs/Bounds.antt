-- The bounds of a glyph: the least and greatest abscissa and ordinate over all points of its path, control points
-- included. All are 0 if the path has no point.
use Rattle.std.specs.Prelude.{◌≡◌, ◌≤ℤ◌, ◌⊎◌, ℤ, pos, negsuc, List, [], ◌∷◌, All, Contains}
use Rattle.std.specs.Int.{int_min, int_max}
use Rattle.std.specs.List.{flat_map, fold}
use Rattle.mus_units.specs.declared.glyph.Glyph.{Glyph}
use Rattle.glyph_paths.specs.declared.paths.PathOp.{PathOp}
use Rattle.glyph_paths.specs.declared.bounds.Bounds.{Bounds}
use Rattle.glyph_paths.specs.Rows.{outline_of}
use Rattle.glyph_paths.specs.declared.paths.PathOp.TheVariants as ops

-- one of the two coordinates of a point
pub data Axis : Type 0 where
  abscissa : Axis
  ordinate : Axis

-- one of the two ends of the range that points cover along an axis
pub data End : Type 0 where
  least : End
  greatest : End

-- one coordinate of a point
unfoldable pub coordinate : Axis → ℤ → ℤ → ℤ
coordinate abscissa x y = x
coordinate ordinate x y = y

-- a coordinate of each point of a step, control points included
abbrev pub along : Axis → PathOp → List ℤ
along axis (ops.Move x y) = coordinate axis x y ∷ []
along axis (ops.Line x y) = coordinate axis x y ∷ []
along axis (ops.Curve a b c d x y) = coordinate axis a b ∷ coordinate axis c d ∷ coordinate axis x y ∷ []
along axis ops.Fill = []
along axis ops.Stroke = []

-- a coordinate of each point of a path
unfoldable pub coordinates : Axis → List PathOp → List ℤ
coordinates axis steps = flat_map (along axis) steps

-- the least of some numbers is one of them, and none is less; without any number it is 0
abbrev pub IsLeast : List ℤ → ℤ → Type 0
IsLeast zs z = All (λ other. z ≤ℤ other) zs × (Contains zs z ⊎ ((zs ≡ []) × (z ≡ pos 0)))

-- the greatest of some numbers likewise
abbrev pub IsGreatest : List ℤ → ℤ → Type 0
IsGreatest zs z = All (λ other. other ≤ℤ z) zs × (Contains zs z ⊎ ((zs ≡ []) × (z ≡ pos 0)))

-- the bounds of a path
pub record AreBounds (steps : List PathOp) (bounds : Bounds) : Type 0 where
  pub left : IsLeast (coordinates abscissa steps) bounds.left
  pub low : IsLeast (coordinates ordinate steps) bounds.low
  pub right : IsGreatest (coordinates abscissa steps) bounds.right
  pub high : IsGreatest (coordinates ordinate steps) bounds.high

-- no point of a glyph is farther than 2000 from where it is drawn
abbrev pub IsClose : ℤ → Type 0
IsClose z = (negsuc 1999 ≤ℤ z) × (z ≤ℤ pos 2000)

pub record AreClose (bounds : Bounds) : Type 0 where
  pub left : IsClose bounds.left
  pub low : IsClose bounds.low
  pub right : IsClose bounds.right
  pub high : IsClose bounds.high

-- The same as a function, for the definitions of the crates above.
unfoldable pub further : End → ℤ → ℤ → ℤ
further least = int_min
further greatest = int_max

abbrev pub furthest : End → ℤ → List ℤ → ℤ
furthest end first zs = fold (further end) first zs

abbrev pub first_or_zero : List ℤ → ℤ
first_or_zero [] = pos 0
first_or_zero (z ∷ zs) = z

unfoldable pub extent : End → Axis → List PathOp → ℤ
extent end axis steps = furthest end (first_or_zero (coordinates axis steps)) (coordinates axis steps)

unfoldable pub bounds_in : Glyph → Bounds
bounds_in glyph = record {
  left = extent least abscissa (outline_of glyph);
  low = extent least ordinate (outline_of glyph);
  right = extent greatest abscissa (outline_of glyph);
  high = extent greatest ordinate (outline_of glyph);
}
