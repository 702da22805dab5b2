-- The text of what a sheet sounds. For each tune, a line `tune` and its ordinal; for each of its staves, counted from
-- 0, a line `staff` and its number; and for each head a line with its letter in capital, its alteration in half
-- steps, -2 to 2, and its octave.
use Rattle.std.specs.{Prelude.{ℕ, ℤ, pos, negsuc, List, ◌++◌, codes, decimal, flat_map}, Fmt.signed_decimal}
use Rattle.mus_units.specs.declared.key.Spread.{Spread}
use Rattle.mus_units.specs.declared.pitch.Alter.{Alter}
use Rattle.mus_units.specs.declared.pitch.Letter.{Letter}
use Rattle.ps_text.specs.Document.{numbered}
use Rattle.ps_text.specs.declared.sheet.Sheet.{Sheet}
use Rattle.ps_heard.specs.declared.column.Heard.{Heard}
use Rattle.ps_heard.specs.declared.tunes.SheetTune.{SheetTune}
use Rattle.ps_heard.specs.Tunes.{items_of, staves_heard, tunes_of}

abbrev pub letter_text : Letter → List ℕ
letter_text Letter.C = codes "C"
letter_text Letter.D = codes "D"
letter_text Letter.E = codes "E"
letter_text Letter.F = codes "F"
letter_text Letter.G = codes "G"
letter_text Letter.A = codes "A"
letter_text Letter.B = codes "B"

-- half steps, upwards
abbrev pub half_steps : Alter → ℤ
half_steps Alter.Flat2 = negsuc 1
half_steps Alter.Flat = negsuc 0
half_steps Alter.Natural = pos 0
half_steps Alter.Sharp = pos 1
half_steps Alter.Sharp2 = pos 2

abbrev pub head_line : Heard → List ℕ
head_line x =
    letter_text x.pitch.letter ++ codes " " ++ signed_decimal (half_steps x.alter) ++ codes " "
    ++ signed_decimal x.pitch.octave ++ codes "\n"

-- staff k of a tune
abbrev pub heard_staff_text : ℕ → List Heard → List ℕ
heard_staff_text k heads = codes "staff " ++ decimal k ++ codes "\n" ++ flat_map head_line heads

abbrev pub heard_tune_text : Spread → SheetTune → List ℕ
heard_tune_text spread part =
    codes "tune " ++ decimal part.ordinal ++ codes "\n"
    ++ numbered heard_staff_text 0 (staves_heard spread part.systems)

-- the text, tune by tune
abbrev pub heard_text : Spread → Sheet → List ℕ
heard_text spread s = flat_map (heard_tune_text spread) (tunes_of (items_of s))
