-- Displaced heads: heads are taken from the lowest up if the stem goes up, and from the highest down if it goes down,
-- at one height in the order of the text. A head at most one step past the one taken before it goes to the other side
-- of the stem, unless that one did.
use Rattle.mus_score.specs.Limits.{highest_head, lowest_head}
use Rattle.std.specs.Prelude.{ℕ, zero, suc, ℤ, pos, ◌+◌, ◌+ℤ◌, ◌-ℤ◌, ◌≤ℤ◌, Bool, true, false, not, ◌&&◌, int_le}
use Rattle.std.specs.Prelude.{if◌then◌else◌, List, [], ◌∷◌, length, replicate, Option, Some, None, is_some}
use Rattle.std.specs.Ordering.{int_eq}
use Rattle.std.specs.Int.{int_min, int_max}
use Rattle.std.specs.List.{slice_set, AllByRecursion}
use Rattle.mus_units.specs.Pitch.{height_of}
use Rattle.mus_units.specs.declared.note.Head.{Head}
use Rattle.mus_units.specs.declared.pitch.Clef.{Clef}
use Rattle.mus_stems.specs.declared.heads.HeadPosition.{HeadPosition}
use Rattle.mus_stems.specs.declared.heads.LastHead.{LastHead}
use Rattle.mus_stems.specs.Distances.{right_of_stem, left_of_stem, lowest_level, level_count}

-- the position of a head in a clef, and whether an accidental is written before it
unfoldable pub stand_of : Clef → Head → HeadPosition
stand_of c h = record { height = height_of h.pitch c; signed = is_some h.sign }

-- heads are at heights -14 to 22
abbrev pub IsNearStaff : HeadPosition → Type 0
IsNearStaff s = (lowest_head ≤ℤ s.height) × (s.height ≤ℤ highest_head)

abbrev pub AllNear : List HeadPosition → Type 0
AllNear ss = AllByRecursion IsNearStaff ss

-- the least of a height and those of heads
abbrev pub lowest : ℤ → List HeadPosition → ℤ
lowest z [] = z
lowest z (s ∷ ss) = lowest (int_min z s.height) ss

-- the greatest of a height and those of heads
abbrev pub highest : ℤ → List HeadPosition → ℤ
highest z [] = z
highest z (s ∷ ss) = highest (int_max z s.height) ss

-- how far a head is along the direction in which heads are taken
unfoldable pub level_of : Bool → ℤ → ℤ
level_of up h = if up then h else (pos 0 -ℤ h)

-- a head as it is taken: its place in the text, its level, and whether it has an accidental
pub record Taken : Type 0 where
  pub place : ℕ
  pub level : ℤ
  pub signed : Bool

-- the head at place k, if it is at level v, before what is taken after it
unfoldable pub taken_one : Bool → ℤ → ℕ → HeadPosition → List Taken → List Taken
taken_one up v k s rest =
    if int_eq (level_of up s.height) v then record { place = k; level = v; signed = s.signed } ∷ rest else rest

-- the heads at one level, counted from k
abbrev pub taken_at : Bool → ℤ → ℕ → List HeadPosition → List Taken → List Taken
taken_at up v k [] rest = rest
taken_at up v k (s ∷ ss) rest = taken_one up v k s (taken_at up v (k + 1) ss rest)

-- the heads at n levels from v on
abbrev pub taken_from : Bool → ℤ → ℕ → List HeadPosition → List Taken
taken_from up v zero ss = []
taken_from up v (suc n) ss = taken_at up v 0 ss (taken_from up (v +ℤ pos 1) n ss)

-- all heads as they are taken: from the lowest for up, from the highest for down, and heads of one height in the
-- order of the text. Their levels are -22 to 22, since their heights are -14 to 22
unfoldable pub taken : Bool → List HeadPosition → List Taken
taken up ss = taken_from up lowest_level level_count ss

-- a head is displaced if it is at most one step past the head taken before it and that head is not displaced
unfoldable pub is_step_past : ℤ → ℤ → Bool
is_step_past before v = int_le (v -ℤ pos 1) before

unfoldable pub gives_way : Option LastHead → ℤ → Bool
gives_way None v = false
gives_way (Some b) v = is_step_past b.level v && not b.moved

abbrev pub shifted : ℤ → Option LastHead → List Taken → List ℤ → List ℤ
shifted dx b [] xs = xs
shifted dx b (t ∷ ts) xs =
    if gives_way b t.level then shifted dx (Some (record { level = t.level; moved = true })) ts
    (slice_set xs t.place dx)
    else shifted dx (Some (record { level = t.level; moved = false })) ts xs

unfoldable pub head_shift : Bool → ℤ
head_shift up = if up then right_of_stem else left_of_stem

-- the dx of each head, in the order of the text
unfoldable pub shifts_of : Bool → List HeadPosition → List ℤ
shifts_of up ss = shifted (head_shift up) None (taken up ss) (replicate (length ss) (pos 0))
