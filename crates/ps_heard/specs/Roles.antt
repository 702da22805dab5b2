-- What a glyph means to a listener, and the pitch at a height of a staff.
use Rattle.std.specs.{Prelude.{ℤ, pos, ◌+ℤ◌, Option, Some, None}, Int.int_div_euclid}
use Rattle.mus_units.specs.{Distances.staff_step, Pitch.clef_row, Pitch.clef_drawn}
use Rattle.mus_units.specs.declared.glyph.Glyph.{Glyph}
use Rattle.mus_units.specs.declared.pitch.Clef.{Clef}
use Rattle.mus_units.specs.declared.pitch.Pitch.{Pitch}
use Rattle.mus_units.specs.declared.pitch.Alter.{Alter}
use Rattle.mus_pitch.specs.Steps.{pitch_of_steps}
use Rattle.ps_heard.specs.declared.column.Role.{Role}

-- a clef that a glyph draws, if it draws one
abbrev pub clef_role : Option Clef → Role
clef_role None = Role.Quiet
clef_role (Some clef) = Role.Clef clef

abbrev pub role_of : Glyph → ℤ → Role
role_of Glyph.Ag dy = Role.Sign Alter.Flat2
role_of Glyph.Af dy = Role.Sign Alter.Flat
role_of Glyph.An dy = Role.Sign Alter.Natural
role_of Glyph.As dy = Role.Sign Alter.Sharp
role_of Glyph.Ax dy = Role.Sign Alter.Sharp2
role_of Glyph.Hb dy = Role.Head
role_of Glyph.Hw dy = Role.Head
role_of Glyph.Hh dy = Role.Head
role_of Glyph.Hq dy = Role.Head
role_of Glyph.Gh dy = Role.Grace
role_of Glyph.Bt dy = Role.Bar
role_of Glyph.Bw dy = Role.Bar
role_of Glyph.Bf dy = Role.Bar
role_of Glyph.Bi dy = Role.Bar
role_of Glyph.Bb dy = Role.Bar
role_of Glyph.Bo dy = Role.Bar
role_of glyph dy = clef_role (clef_drawn glyph dy)

unfoldable pub pitch_at : Clef → ℤ → Pitch
pitch_at c dy = pitch_of_steps (int_div_euclid dy staff_step +ℤ pos (clef_row c).bottom)
