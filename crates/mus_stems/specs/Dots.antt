-- The dots after the heads of an event.
use Rattle.std.specs.Prelude.{ℕ, zero, suc, ℤ, pos, negsuc, ◌+◌, ◌*◌, ◌%◌, ◌+ℤ◌, ◌*ℤ◌, Bool, ◌==◌, if◌then◌else◌, List}
use Rattle.std.specs.Prelude.{[], ◌∷◌, ◌++◌}
use Rattle.std.specs.Ordering.{int_eq}
use Rattle.std.specs.List.{list_any}
use Rattle.mus_stems.specs.declared.heads.HeadPosition.{HeadPosition}
use Rattle.mus_stems.specs.declared.dots.Spot.{Spot}
use Rattle.mus_units.specs.Distances.{staff_step}
use Rattle.mus_stems.specs.Distances.{right_of_stem, dot_column, outer_dot_column, between_dots}

unfoldable pub is_right : ℤ → Bool
is_right dx = int_eq dx right_of_stem

-- dots of a head: 250 apart, in the space above if the head is on a line
unfoldable pub dot_place : ℤ → ℕ → ℤ
dot_place first j = first +ℤ pos (between_dots * j)

unfoldable pub dot_at : ℤ → ℤ → ℕ → Spot
dot_at first dy j = record { dx = dot_place first j; dy = dy }

abbrev pub dots_at : ℤ → ℤ → ℕ → ℕ → List Spot
dots_at first dy j zero = []
dots_at first dy j (suc n) = dot_at first dy j ∷ dots_at first dy (j + 1) n

abbrev pub is_even : ℤ → Bool
is_even (pos n) = n % 2 == 0
is_even (negsuc n) = n % 2 == 1

unfoldable pub dot_height : ℤ → ℤ
dot_height h = if is_even h then (staff_step *ℤ h) +ℤ staff_step else (staff_step *ℤ h)

unfoldable pub first_dot : List ℤ → ℤ
first_dot shifts = if list_any is_right shifts then outer_dot_column else dot_column

abbrev pub dots_along : ℤ → ℕ → List HeadPosition → List Spot
dots_along dx n [] = []
dots_along dx n (s ∷ ss) = dots_at dx (dot_height s.height) 0 n ++ dots_along dx n ss
