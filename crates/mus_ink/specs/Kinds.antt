-- Which glyph draws what, and where: a row for each accidental, base and decoration.
use Rattle.std.specs.Prelude.{ℤ, pos, Bool, true, false, Option, Some, None}
use Rattle.mus_units.specs.declared.glyph.Glyph.{Glyph}
use Rattle.mus_units.specs.declared.pitch.Alter.{Alter}
use Rattle.mus_units.specs.declared.note.Deco.{Deco}
use Rattle.mus_units.specs.declared.value.Base.{Base}
use Rattle.mus_ink.specs.declared.kinds.RestRow.{RestRow}

abbrev pub sign_glyph : Alter → Glyph
sign_glyph Alter.Flat2 = Glyph.Ag
sign_glyph Alter.Flat = Glyph.Af
sign_glyph Alter.Natural = Glyph.An
sign_glyph Alter.Sharp = Glyph.As
sign_glyph Alter.Sharp2 = Glyph.Ax

abbrev pub head_glyph : Base → Glyph
head_glyph Base.Breve = Glyph.Hb
head_glyph Base.Whole = Glyph.Hw
head_glyph Base.Half = Glyph.Hh
head_glyph _ = Glyph.Hq

-- a rest: its glyph, and its height in steps above the bottom line. Rests shorter than a quarter have a glyph for
-- each flag; the first glyph is at this height
abbrev pub rest_by : Glyph → ℤ → RestRow
rest_by glyph line = record { glyph = glyph; line = line }

abbrev pub rest_row : Base → RestRow
rest_row Base.Breve = rest_by Glyph.R0 (pos 4)
rest_row Base.Whole = rest_by Glyph.R1 (pos 6)
rest_row Base.Half = rest_by Glyph.R2 (pos 4)
rest_row Base.Quarter = rest_by Glyph.R4 (pos 4)
rest_row _ = rest_by Glyph.R8 (pos 4)

-- the decorations that have a glyph; dynamic marks and fingerings are texts, and others draw nothing
abbrev pub deco_glyph : Deco → Option Glyph
deco_glyph Deco.Ks = Some Glyph.Ks
deco_glyph Deco.Kr = Some Glyph.Kr
deco_glyph Deco.Kf = Some Glyph.Kf
deco_glyph Deco.Ka = Some Glyph.Ka
deco_glyph Deco.Km = Some Glyph.Km
deco_glyph Deco.Kc = Some Glyph.Kc
deco_glyph Deco.Kp = Some Glyph.Kp
deco_glyph Deco.Kg = Some Glyph.Kg
deco_glyph Deco.Kt = Some Glyph.Kt
deco_glyph Deco.Ku = Some Glyph.Ku
deco_glyph Deco.Kd = Some Glyph.Kd
deco_glyph Deco.Kn = Some Glyph.Kn
deco_glyph _ = None

-- flags by the direction of the stem, and stubs to the right or to the left of it
abbrev pub flag_glyph : Bool → Glyph
flag_glyph true = Glyph.Fu
flag_glyph false = Glyph.Fd

abbrev pub stub_glyph : Bool → Glyph
stub_glyph true = Glyph.Sr
stub_glyph false = Glyph.Sl
