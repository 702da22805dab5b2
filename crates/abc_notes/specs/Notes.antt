-- A note: an accidental or none, a letter, octave marks in any mix, and a length. A capital is in octave 4 and a
-- small letter in octave 5; each prime counts one octave up and each comma one down. Then reading a note from left to
-- right.
use Prim.Native.Char.{code}
use Rattle.std.specs.Prelude.{◌≡◌, ℕ, ℤ, pos, ◌+ℤ◌, ◌-ℤ◌, List, [], ◌∷◌, ◌++◌, Bool, true, false, ◌==◌, if◌then◌else◌}
use Rattle.std.specs.Prelude.{Option, Some, None, count_by}
use Rattle.std.specs.List.{list_all}
use Rattle.mus_units.specs.declared.pitch.Alter.{Alter}
use Rattle.mus_units.specs.declared.pitch.Alter.TheVariants.{Flat2, Flat, Natural, Sharp, Sharp2}
use Rattle.mus_units.specs.declared.pitch.Letter.{Letter}
use Rattle.mus_units.specs.declared.pitch.Letter.TheVariants.{C, D, E, F, G, A, B}
use Rattle.mus_units.specs.declared.note.Head.{Head}
use Rattle.abc_notes.specs.declared.part.Len.{Len}
use Rattle.abc_notes.specs.Runs.{skip, span_all, is_mark}
use Rattle.abc_notes.specs.Lengths.{LengthForm, length_then, IsWrittenLength, length_from}

pub record NoteForm : Type 0 where
  pub sign : Option Alter
  pub low : Bool
  pub letter : Letter
  pub marks : List ℕ
  pub length : LengthForm

-- two carets, one caret, two underscores, one underscore, an equals sign, or no accidental
abbrev pub sign_then : Option Alter → List ℕ → List ℕ
sign_then None rest = rest
sign_then (Some Sharp2) rest = code "^" ∷ code "^" ∷ rest
sign_then (Some Sharp) rest = code "^" ∷ rest
sign_then (Some Flat2) rest = code "_" ∷ code "_" ∷ rest
sign_then (Some Flat) rest = code "_" ∷ rest
sign_then (Some Natural) rest = code "=" ∷ rest

-- a letter as a small letter or as a capital
abbrev pub letter_byte : Bool → Letter → ℕ
letter_byte false A = code "A"
letter_byte false B = code "B"
letter_byte false C = code "C"
letter_byte false D = code "D"
letter_byte false E = code "E"
letter_byte false F = code "F"
letter_byte false G = code "G"
letter_byte true A = code "a"
letter_byte true B = code "b"
letter_byte true C = code "c"
letter_byte true D = code "d"
letter_byte true E = code "e"
letter_byte true F = code "f"
letter_byte true G = code "g"

-- the bytes of a note, and the rest after them
abbrev pub note_then : NoteForm → List ℕ → List ℕ
note_then f rest = sign_then f.sign (letter_byte f.low f.letter ∷ (f.marks ++ length_then f.length rest))

pub record IsNote (f : NoteForm) : Type 0 where
  pub marks : list_all is_mark f.marks ≡ true
  pub length : IsWrittenLength f.length

-- `C` is in octave 4 and `c` in octave 5, and each mark counts one up or down
abbrev pub octave_of : Bool → List ℕ → ℤ
octave_of low marks =
    (pos (if low then 5 else 4) +ℤ pos (count_by (λ b. b == code "'") marks)) -ℤ pos
    (count_by (λ b. b == code ",") marks)

abbrev pub head_of : NoteForm → Head
head_of f =
    record { pitch = record { letter = f.letter; octave = octave_of f.low f.marks }; sign = f.sign; tied = false }

abbrev pub note_read : Head → Len → List ℕ → Head × Len × List ℕ
note_read head len rest = (head, len, rest)

-- reading from left to right
unfoldable pub sign_at : List ℕ → Option Alter × List ℕ
sign_at s =
    let up = skip (code "^") s in
    let up_two = skip (code "^") up.1 in
    let down = skip (code "_") s in
    let down_two = skip (code "_") down.1 in
    let plain = skip (code "=") s in
    if up.0 then (if up_two.0 then (Some Sharp2, up_two.1) else (Some Sharp, up.1))
    else (if down.0 then (if down_two.0 then (Some Flat2, down_two.1) else (Some Flat, down.1))
    else (if plain.0 then (Some Natural, plain.1) else (None, s)))

abbrev pub upper_at : ℕ → Option Letter
upper_at b =
    if b == code "A" then Some A
    else (if b == code "B" then Some B else (if b == code "C" then Some C else (if b == code "D" then Some D
    else (if b == code "E" then Some E
    else (if b == code "F" then Some F else (if b == code "G" then Some G else None))))))

abbrev pub lower_at : ℕ → Option Letter
lower_at b =
    if b == code "a" then Some A
    else (if b == code "b" then Some B else (if b == code "c" then Some C else (if b == code "d" then Some D
    else (if b == code "e" then Some E
    else (if b == code "f" then Some F else (if b == code "g" then Some G else None))))))

abbrev pub either_letter : Option Letter → Option Letter → Option (Bool × Letter)
either_letter (Some l) low = Some (false, l)
either_letter None (Some l) = Some (true, l)
either_letter None None = None

unfoldable pub letter_at : ℕ → Option (Bool × Letter)
letter_at b = either_letter (upper_at b) (lower_at b)

-- what follows the accidental and the letter
abbrev pub note_from : Option Alter → Option (Bool × Letter) → List ℕ → Option (NoteForm × List ℕ)
note_from sign None rest = None
note_from sign (Some l) rest =
    let marks = span_all is_mark rest in
    let len = length_from marks.1 in
    Some (record { sign = sign; low = l.0; letter = l.1; marks = marks.0; length = len.0 }, len.1)

abbrev pub note_after : Option Alter → List ℕ → Option (NoteForm × List ℕ)
note_after sign [] = None
note_after sign (b ∷ rest) = note_from sign (letter_at b) rest

unfoldable pub note_at : List ℕ → Option (NoteForm × List ℕ)
note_at s = let sign = sign_at s in note_after sign.0 sign.1
