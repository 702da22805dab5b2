-- How the heads of a staff sound, by its columns alone. A column is seen with those before it, the nearest first. Its
-- clef is the last clef at or before it, initially treble. Its key is that of the last column at or before it that
-- sets one, initially without accidentals. A column without heads that has accidentals sets a key, and the first
-- column of a system sets one whatever it has. A bar ends a measure. The alteration of a head is the first of these
-- that exists: the accidental at its height in its column; if a tie ends at it, the alteration of the head before the
-- tie; the last accidental of an earlier head of its measure that the spread reaches; the key's; natural. The head
-- before a tie is the first with that letter and octave in the last earlier column that has heads. Heads of grace
-- notes count for accidentals, but are not listed.
use Rattle.std.specs.Prelude.{ℤ, ◌||◌, ◌&&◌, not, Bool, true, false, if◌then◌else◌, List, [], ◌∷◌, ◌++◌, reverse}
use Rattle.std.specs.Prelude.{Option, Some, None, unwrap_or}
use Rattle.std.specs.List.{find, list_any}
use Rattle.std.specs.Option.{option_map}
use Rattle.std.specs.Ordering.{int_eq}
use Rattle.mus_units.specs.Good.{same_letter}
use Rattle.mus_units.specs.declared.key.Sign.{Sign}
use Rattle.mus_units.specs.declared.key.Spread.{Spread}
use Rattle.mus_units.specs.declared.note.Head.{Head}
use Rattle.mus_units.specs.declared.pitch.Alter.{Alter}
use Rattle.mus_units.specs.declared.pitch.Clef.{Clef}
use Rattle.mus_units.specs.declared.pitch.Pitch.{Pitch}
use Rattle.mus_pitch.specs.Alteration.{key_sign, said_sign}
use Rattle.ps_heard.specs.declared.column.HeardColumn.{HeardColumn}
use Rattle.ps_heard.specs.declared.column.Heard.{Heard}
use Rattle.ps_heard.specs.declared.column.HeardGlyph.{HeardGlyph}
use Rattle.ps_heard.specs.declared.column.Role.{Role}
use Rattle.ps_heard.specs.Roles.{pitch_at}

-- the last clef among these glyphs, or else the one before
abbrev pub clef_or : Clef → Role → Clef
clef_or c (Role.Clef new) = new
clef_or c _ = c

abbrev pub clef_after : Clef → List HeardGlyph → Clef
clef_after c [] = c
clef_after c (n ∷ ns) = clef_after (clef_or c n.role) ns

abbrev pub clef_heard : List HeardColumn → Clef
clef_heard [] = Clef.Treble
clef_heard (col ∷ earlier) = clef_after (clef_heard earlier) col.notes

-- accidentals as entries of a key, by height and clef; the first for a letter counts, as in each key
abbrev pub entry : Clef → ℤ → Role → List Sign
entry c dy (Role.Sign a) = record { letter = (pitch_at c dy).letter; alter = a } ∷ []
entry c dy _ = []

abbrev pub entries : Clef → List HeardGlyph → List Sign
entries c [] = []
entries c (n ∷ ns) = entry c n.dy n.role ++ entries c ns

abbrev pub is_sign : Role → Bool
is_sign (Role.Sign a) = true
is_sign _ = false

abbrev pub is_head : Role → Bool
is_head Role.Head = true
is_head Role.Grace = true
is_head _ = false

-- the first column of a system sets the key, and so does each that has accidentals and no heads
abbrev pub gives_key : Bool → List HeardGlyph → Bool
gives_key leads ns = leads || (list_any (λ n. is_sign n.role) ns && not (list_any (λ n. is_head n.role) ns))

abbrev pub key_heard : List HeardColumn → List Sign
key_heard [] = []
key_heard (col ∷ earlier) =
    if gives_key col.leads col.notes then entries (clef_heard (col ∷ earlier)) col.notes else key_heard earlier

-- the first accidental at a height
abbrev pub sign_if : ℤ → ℤ → Role → Option Alter
sign_if dy at (Role.Sign a) = if int_eq at dy then Some a else None
sign_if dy at _ = None

abbrev pub first_alter : Option Alter → Option Alter → Option Alter
first_alter (Some a) b = Some a
first_alter None b = b

abbrev pub sign_of_glyph : ℤ → List HeardGlyph → Option Alter
sign_of_glyph dy [] = None
sign_of_glyph dy (n ∷ ns) = first_alter (sign_if dy n.dy n.role) (sign_of_glyph dy ns)

-- a head at a height of a column: its pitch and its accidental
abbrev pub head_of_glyph : Clef → ℤ → List HeardGlyph → Head
head_of_glyph c dy ns = record { pitch = pitch_at c dy; sign = sign_of_glyph dy ns; tied = false }

-- the heads so far in a measure: none after a bar, and one more after each head
abbrev pub said_with : Role → Head → List Head → List Head
said_with Role.Bar h said = []
said_with Role.Head h said = said ++ h ∷ []
said_with Role.Grace h said = said ++ h ∷ []
said_with _ h said = said

abbrev pub said_with_column : Clef → HeardColumn → List Head → List HeardGlyph → List Head
said_with_column c col said [] = said
said_with_column c col said (n ∷ ns) =
    said_with_column c col (said_with n.role (head_of_glyph c n.dy col.notes) said) ns

abbrev pub said_before : List HeardColumn → List Head
said_before [] = []
said_before (col ∷ earlier) = said_with_column (clef_heard (col ∷ earlier)) col (said_before earlier) col.notes

-- the head before a tie that ends at a head: the first with its letter and octave
abbrev pub is_same_pitch : Pitch → Heard → Bool
is_same_pitch p x = same_letter x.pitch.letter p.letter && int_eq x.pitch.octave p.octave

abbrev pub tied_from : Bool → List Heard → Pitch → Option Heard
tied_from true before p = find (is_same_pitch p) before
tied_from false before p = None

-- the first of these that exists: its own accidental, the alteration before its tie, the last accidental that reaches
-- it, the key's, natural
abbrev pub first_there : Option Alter → Option Alter → Option Alter → Option Alter → Alter
first_there own tied said key = unwrap_or own (unwrap_or tied (unwrap_or said (unwrap_or key Alter.Natural)))

-- a head at a height of a column, after the heads of its measure
abbrev pub heard_of_glyph : Spread → HeardColumn → Clef → List Sign → List Heard → List Head → ℤ → Heard
heard_of_glyph spread col c key before said dy = record {
  pitch = pitch_at c dy;
  alter = first_there (sign_of_glyph dy col.notes)
      (option_map (λ x. x.alter) (tied_from (list_any (int_eq dy) col.ties) before (pitch_at c dy)))
      (said_sign spread (pitch_at c dy) said)
      (key_sign (pitch_at c dy) key);
}

-- only heads of notes are listed
abbrev pub heard_if_note : Role → Heard → List Heard
heard_if_note Role.Head x = x ∷ []
heard_if_note _ x = []

-- the heads of a column, each after those before it
abbrev pub heads_from : Spread → HeardColumn → Clef → List Sign → List Heard → List Head → List HeardGlyph → List Heard
heads_from spread col c key before said [] = []
heads_from spread col c key before said (n ∷ ns) =
    heard_if_note n.role (heard_of_glyph spread col c key before said n.dy)
    ++ heads_from spread col c key before (said_with n.role (head_of_glyph c n.dy col.notes) said) ns

-- the heads of the nearest column, given those of the last column before it that has heads
abbrev pub heads_of_column : Spread → List Heard → HeardColumn → List HeardColumn → List Heard
heads_of_column spread before col earlier =
    heads_from spread col (clef_heard (col ∷ earlier)) (key_heard (col ∷ earlier)) before (said_before earlier)
    col.notes

-- those of a column if it has any, or else those before it
abbrev pub last_or : List Heard → List Heard → List Heard
last_or before [] = before
last_or before (x ∷ xs) = x ∷ xs

-- the heads of the last column that has heads
abbrev pub last_heads : Spread → List HeardColumn → List Heard
last_heads spread [] = []
last_heads spread (col ∷ earlier) =
    last_or (last_heads spread earlier) (heads_of_column spread (last_heads spread earlier) col earlier)

-- all heads, from the left
abbrev pub heads_heard : Spread → List HeardColumn → List Heard
heads_heard spread [] = []
heads_heard spread (col ∷ earlier) =
    heads_heard spread earlier ++ heads_of_column spread (last_heads spread earlier) col earlier

-- the heads of a staff, over its columns from the left
unfoldable pub heard_of : Spread → List HeardColumn → List Heard
heard_of spread cols = heads_heard spread (reverse cols)
