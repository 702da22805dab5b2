-- What a listener notes of the parts that a voice draws: clefs, entries, signs, heads and bars. The rest is quiet.
use Rattle.std.specs.Prelude.{ℤ, pos, List, [], ◌∷◌, ◌++◌, Option, Some, None}
use Rattle.mus_units.specs.declared.key.Key.{Key}
use Rattle.mus_units.specs.declared.key.Sign.{Sign}
use Rattle.mus_units.specs.declared.note.Bar.{Bar}
use Rattle.mus_units.specs.declared.note.Head.{Head}
use Rattle.mus_units.specs.declared.pitch.Alter.{Alter}
use Rattle.mus_units.specs.declared.pitch.Clef.{Clef}
use Rattle.mus_units.specs.Pitch.{clef_row}
use Rattle.mus_ink.specs.{Bars.bar_glyph, Drawing.steps_dy, Notes.dy_of, Signatures.entry_dy}
use Rattle.ps_heard.specs.declared.column.HeardGlyph.{HeardGlyph}
use Rattle.ps_heard.specs.declared.column.Role.{Role}
use Rattle.ps_heard.specs.Columns.{noted}
use Rattle.ps_heard.specs.Roles.{role_of}

abbrev pub note : Role → ℤ → HeardGlyph
note role dy = record { role = role; dy = dy }

-- a clef at the line that it names, and the entries of a signature
abbrev pub clef_note : Clef → HeardGlyph
clef_note c = note (Role.Clef c) (steps_dy (clef_row c).line)

abbrev pub entry_notes : Clef → List Sign → List HeardGlyph
entry_notes c [] = []
entry_notes c (s ∷ ss) = note (Role.Sign s.alter) (entry_dy c s.alter s.letter) ∷ entry_notes c ss

-- the head of a staff
abbrev pub head_column_notes : Clef → List Sign → List HeardGlyph
head_column_notes c signs = clef_note c ∷ entry_notes c signs

-- a change shows the new clef, and for a new key its signs, or if it has none a natural for each old one
abbrev pub clef_notes : Option Clef → List HeardGlyph
clef_notes None = []
clef_notes (Some c) = clef_note c ∷ []

abbrev pub naturals : List Sign → List Sign
naturals [] = []
naturals (s ∷ ss) = record { letter = s.letter; alter = Alter.Natural } ∷ naturals ss

abbrev pub new_signs : List Sign → List Sign → List Sign
new_signs old [] = naturals old
new_signs old (s ∷ ss) = s ∷ ss

abbrev pub change_signs : List Sign → Option Key → List Sign
change_signs old None = []
change_signs old (Some key) = new_signs old key.signs

abbrev pub change_notes : Clef → List Sign → Option Clef → Option Key → List HeardGlyph
change_notes c old clef key = clef_notes clef ++ entry_notes c (change_signs old key)

-- the signs of a chord, and its heads, of notes or of graces
abbrev pub sign_note : ℤ → Option Alter → List HeardGlyph
sign_note dy None = []
sign_note dy (Some a) = note (Role.Sign a) dy ∷ []

abbrev pub sign_notes : Clef → List Head → List HeardGlyph
sign_notes c [] = []
sign_notes c (h ∷ hs) = sign_note (dy_of c h) h.sign ++ sign_notes c hs

abbrev pub head_notes : Role → Clef → List Head → List HeardGlyph
head_notes role c [] = []
head_notes role c (h ∷ hs) = note role (dy_of c h) ∷ head_notes role c hs

-- a bar, if it is seen
abbrev pub bar_notes : Bar → List HeardGlyph
bar_notes b = noted (role_of (bar_glyph b) (pos 0)) (pos 0)
