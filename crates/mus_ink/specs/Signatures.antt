-- Clefs, the entries of key signatures, and meters.
use Rattle.std.specs.Prelude.{ℕ, ℤ, pos, ◌+◌, ◌*◌, Bool, true, false, List, [], ◌∷◌, Option, Some, None, codes, decimal}
use Rattle.mus_units.specs.declared.pitch.Letter.{Letter}
use Rattle.mus_units.specs.declared.pitch.Alter.{Alter}
use Rattle.mus_units.specs.declared.pitch.Clef.{Clef}
use Rattle.mus_units.specs.{declared.pitch.Entries.Entries, Pitch.ClefRow, Pitch.clef_row}
use Rattle.mus_units.specs.declared.key.Sign.{Sign}
use Rattle.mus_units.specs.declared.key.Meter.{Meter}
use Rattle.mus_laid.specs.declared.drawn.LaneInk.{LaneInk}
use Rattle.mus_ink.specs.Distances.{entry_step, lower_number_line, meter_sign_line, upper_number_line}
use Rattle.mus_ink.specs.Drawing.{big_text, glyph, steps_dy}
use Rattle.mus_ink.specs.Kinds.{sign_glyph}

-- a clef is at the line that it names
abbrev pub clef_mark : ℕ → Clef → LaneInk
clef_mark dx c = glyph (clef_row c).glyph (pos dx) (steps_dy (clef_row c).line)

abbrev pub height_at : Letter → Entries → ℤ
height_at Letter.F es = es.f
height_at Letter.C es = es.c
height_at Letter.G es = es.g
height_at Letter.D es = es.d
height_at Letter.A es = es.a
height_at Letter.E es = es.e
height_at Letter.B es = es.b

-- naturals are where sharps are, and double accidentals where single ones are
abbrev pub entries_for : Alter → ClefRow → Entries
entries_for Alter.Flat2 row = row.flats
entries_for Alter.Flat row = row.flats
entries_for _ row = row.sharps

-- a key that ends shows naturals
abbrev pub shown_alter : Bool → Alter → Alter
shown_alter true a = Alter.Natural
shown_alter false a = a

unfoldable pub entry_dy : Clef → Alter → Letter → ℤ
entry_dy c a l = steps_dy (height_at l (entries_for a (clef_row c)))

unfoldable pub entry_mark : Clef → Alter → Letter → ℕ → LaneInk
entry_mark c a l dx = glyph (sign_glyph a) (pos dx) (entry_dy c a l)

-- entries side by side, starting with the k-th
abbrev pub entry_marks : Clef → Bool → ℕ → ℕ → List Sign → List LaneInk
entry_marks c ends first k [] = []
entry_marks c ends first k (s ∷ ss) =
    entry_mark c (shown_alter ends s.alter) s.letter (first + entry_step * k) ∷ entry_marks c ends first (k + 1) ss

-- two numbers, one above the other, or a sign for 4/4 and 2/2; nothing for a free meter
unfoldable pub meter_marks : ℕ → Meter → List LaneInk
meter_marks dx Meter.Free = []
meter_marks dx Meter.Common = big_text (pos dx) (pos meter_sign_line) (codes "C") ∷ []
meter_marks dx Meter.Cut = big_text (pos dx) (pos meter_sign_line) (codes "C|") ∷ []
meter_marks dx (Meter.Ratio num den) =
    big_text (pos dx) (pos upper_number_line) (decimal num) ∷ big_text (pos dx) (pos lower_number_line) (decimal den)
    ∷ []

abbrev pub meter_if : ℕ → Option Meter → List LaneInk
meter_if dx None = []
meter_if dx (Some m) = meter_marks dx m
