-- The direction of the stems of a run, and where they begin and end.
use Rattle.std.specs.Prelude.{ℤ, pos, ◌+ℤ◌, ◌-ℤ◌, ◌*ℤ◌, Bool, true, false, ◌&&◌, nat_lt, int_lt, if◌then◌else◌, List}
use Rattle.std.specs.Prelude.{[], ◌∷◌, length}
use Rattle.std.specs.Int.{int_min, int_max}
use Rattle.mus_units.specs.declared.note.Wish.{Wish}
use Rattle.mus_stems.specs.declared.heads.HeadPosition.{HeadPosition}
use Rattle.mus_stems.specs.declared.stills.StemInput.{StemInput}
use Rattle.mus_units.specs.Distances.{staff_step}
use Rattle.mus_stems.specs.Distances.{middle_line, stem_length}
use Rattle.mus_stems.specs.Heads.{lowest, highest}
use Rattle.mus_stems.specs.Stills.{is_short}

-- the heights of the lowest and the highest head, 0 without a head
abbrev pub low_of : List HeadPosition → ℤ
low_of [] = pos 0
low_of (s ∷ ss) = lowest s.height ss

abbrev pub high_of : List HeadPosition → ℤ
high_of [] = pos 0
high_of (s ∷ ss) = highest s.height ss

-- the lowest and the highest head of a run
abbrev pub lowest_in : ℤ → List StemInput → ℤ
lowest_in z [] = z
lowest_in z (e ∷ es) = lowest_in (lowest z e.stands) es

abbrev pub highest_in : ℤ → List StemInput → ℤ
highest_in z [] = z
highest_in z (e ∷ es) = highest_in (highest z e.stands) es

abbrev pub run_low : List StemInput → ℤ
run_low [] = pos 0
run_low (e ∷ es) = lowest_in (low_of e.stands) es

abbrev pub run_high : List StemInput → ℤ
run_high [] = pos 0
run_high (e ∷ es) = highest_in (high_of e.stands) es

-- the direction that is asked for; else up if the lowest and the highest height sum to less than 8
abbrev pub is_up : Wish → ℤ → ℤ → Bool
is_up Wish.Up low high = true
is_up Wish.Down low high = false
is_up Wish.Auto low high = int_lt (low +ℤ high) (pos 8)

unfoldable pub stands_up : Wish → List StemInput → Bool
stands_up wish run = is_up wish (run_low run) (run_high run)

-- an event's own end: 7 steps past its last head, and at least at the middle line. A rest's is 0
unfoldable pub upper_end : ℤ → ℤ
upper_end high = int_max ((staff_step *ℤ high) +ℤ stem_length) middle_line

unfoldable pub lower_end : ℤ → ℤ
lower_end low = int_min ((staff_step *ℤ low) -ℤ stem_length) middle_line

unfoldable pub outer_end : Bool → ℤ → ℤ → ℤ
outer_end up low high = if up then upper_end high else lower_end low

abbrev pub stem_own_end : Bool → List HeadPosition → ℤ
stem_own_end up [] = pos 0
stem_own_end up (s ∷ ss) = outer_end up (lowest s.height ss) (highest s.height ss)

-- the end of a run: for stems up the greatest of its events' own ends, for stems down the least
unfoldable pub further_end : Bool → ℤ → ℤ → ℤ
further_end up y z = if up then int_max y z else int_min y z

abbrev pub beam_end : Bool → ℤ → List StemInput → ℤ
beam_end up z [] = z
beam_end up z (e ∷ es) = beam_end up (further_end up z (stem_own_end up e.stands)) es

abbrev pub run_end : Bool → List StemInput → ℤ
run_end up [] = pos 0
run_end up (e ∷ es) = beam_end up (stem_own_end up e.stands) es

-- a stem begins at the dy of the head at its other end: the lowest if it goes up, the highest if it goes down
unfoldable pub from_of : Bool → List HeadPosition → ℤ
from_of up ss = if up then (staff_step *ℤ low_of ss) else (staff_step *ℤ high_of ss)

unfoldable pub has_stem : StemInput → Bool
has_stem e = nat_lt 0 (length e.stands) && is_short e.base
