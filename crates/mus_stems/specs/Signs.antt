-- Where the accidentals before the heads of an event are.
use Rattle.std.specs.Prelude.{ℕ, ℤ, pos, ◌+◌, ◌*◌, ◌-ℤ◌, Bool, false, if◌then◌else◌, List, [], ◌∷◌, length, replicate}
use Rattle.std.specs.Prelude.{Option, Some, None}
use Rattle.std.specs.Ordering.{int_eq}
use Rattle.std.specs.List.{slice_set, list_any}
use Rattle.mus_stems.specs.declared.heads.HeadPosition.{HeadPosition}
use Rattle.mus_stems.specs.Distances.{left_of_stem, sign_column, outer_sign_column, between_columns}
use Rattle.mus_stems.specs.Heads.{Taken, taken}

-- the dx of the k-th column of accidentals, from 0
unfoldable pub sign_dx : ℤ → ℕ → ℤ
sign_dx first k = first -ℤ pos (between_columns * k)

abbrev pub signs_along : ℤ → ℕ → List Taken → List (Option ℤ) → List (Option ℤ)
signs_along first k [] xs = xs
signs_along first k (t ∷ ts) xs =
    if t.signed then signs_along first (k + 1) ts (slice_set xs t.place (Some (sign_dx first k)))
    else signs_along first k ts xs

unfoldable pub signs_from : ℤ → List HeadPosition → List (Option ℤ)
signs_from first ss = signs_along first 0 (taken false ss) (replicate (length ss) None)

unfoldable pub is_left : ℤ → Bool
is_left dx = int_eq dx left_of_stem

-- accidentals are 560 further left if a head is left of the stem
unfoldable pub first_sign : List ℤ → ℤ
first_sign shifts = if list_any is_left shifts then outer_sign_column else sign_column
