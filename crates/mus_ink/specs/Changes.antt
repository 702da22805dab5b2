-- The head of a staff, and a change before an event.
use Rattle.std.specs.Prelude.{ℕ, ◌+◌, ◌*◌, true, false, List, [], ◌∷◌, ◌++◌, length, Option, Some, None}
use Rattle.mus_units.specs.declared.pitch.Clef.{Clef}
use Rattle.mus_units.specs.declared.key.Sign.{Sign}
use Rattle.mus_units.specs.declared.key.Key.{Key}
use Rattle.mus_units.specs.declared.key.Meter.{Meter}
use Rattle.mus_score.specs.declared.score.Changes.{Changes}
use Rattle.mus_laid.specs.declared.drawn.LaneInk.{LaneInk}
use Rattle.mus_ink.specs.Distances.{clef_side, clef_width, entry_gap, entry_step, signature_side}
use Rattle.mus_ink.specs.Signatures.{clef_mark, entry_marks, meter_if}

-- the clef, the entries and the meter drawn there
unfoldable pub head_marks : Clef → List Sign → Option Meter → List LaneInk
head_marks c signs meter =
    clef_mark clef_side c ∷ entry_marks c false signature_side 0 signs
    ++ meter_if (signature_side + entry_step * length signs) meter

abbrev pub clef_if : Option Clef → List LaneInk
clef_if None = []
clef_if (Some c) = clef_mark 0 c ∷ []

-- how far a change of clef moves what follows it
abbrev pub after_clef : Option Clef → ℕ
after_clef None = 0
after_clef (Some c) = clef_width

-- the entries of a new key, or a natural for each entry of the old one if the new one has none
abbrev pub new_entries : Clef → ℕ → List Sign → List Sign → List LaneInk
new_entries c first old [] = entry_marks c true first 0 old
new_entries c first old (s ∷ ss) = entry_marks c false first 0 (s ∷ ss)

abbrev pub key_if : Clef → ℕ → List Sign → Option Key → List LaneInk
key_if c first old None = []
key_if c first old (Some key) = new_entries c first old key.signs

-- how many entries these are
abbrev pub new_count : List Sign → List Sign → ℕ
new_count old [] = length old
new_count old (s ∷ ss) = length (s ∷ ss)

abbrev pub count_if : List Sign → Option Key → ℕ
count_if old None = 0
count_if old (Some key) = new_count old key.signs

-- a change: the clef in force there, the old key's entries, and what changes
unfoldable pub change_marks : Clef → List Sign → Changes → List LaneInk
change_marks c old changes =
    let x = after_clef changes.clef in
    clef_if changes.clef ++ key_if c (x + entry_gap) old changes.key
    ++ meter_if (x + entry_step * count_if old changes.key) changes.meter
