-- The parts of a chord or a grace group: notes, decorations, ties, and what is skipped there, which is blanks, slurs
-- and a lone exclamation mark.
use Prim.Native.Char.{code}
use Rattle.std.specs.Prelude.{◌≡◌, ◌≤◌, ℕ, List, [], ◌∷◌, ◌++◌, length, Bool, true, false, ◌==◌, ◌||◌, if◌then◌else◌}
use Rattle.std.specs.Prelude.{Option, Some, None, option_map, codes}
use Rattle.std.specs.List.{list_all}
use Rattle.mus_units.specs.declared.note.Head.{Head}
use Rattle.abc_lines.specs.declared.fault.FaultKind.TheVariants.{BadByte, BadLength}
use Rattle.abc_notes.specs.declared.part.Flaw.{Flaw}
use Rattle.abc_notes.specs.declared.part.Len.{Len}
use Rattle.abc_notes.specs.declared.part.InnerPiece.{InnerPiece}
use Rattle.abc_notes.specs.declared.part.ItemClass.{ItemClass}
use Rattle.abc_notes.specs.Runs.{maybe, one_of, is_note_letter, span_all}
use Rattle.abc_notes.specs.Lengths.{len_of}
use Rattle.abc_notes.specs.Notes.{NoteForm, note_then, IsNote, head_of, note_at}
use Rattle.abc_notes.specs.Decorations.{is_deco_letter, is_name_byte}
use Rattle.abc_notes.specs.Parts.{Parts, Flawed, goes_on_length}

pub data Inner : Type 0 where
  note_inside : NoteForm → Inner
  letter_inside : (byte : ℕ) → Inner
  named_inside : (name : List ℕ) → Inner
  tie_inside : (dotted : Bool) → Inner
  slur_inside : Inner
  passed_inside : (byte : ℕ) → Inner
  lone_inside : Inner

-- its bytes, and the rest after them
abbrev pub inner_then : Inner → List ℕ → List ℕ
inner_then (note_inside f) rest = note_then f rest
inner_then (letter_inside byte) rest = byte ∷ rest
inner_then (named_inside name) rest = code "!" ∷ (name ++ (code "!" ∷ rest))
inner_then (tie_inside dotted) rest = maybe dotted (code ".") (code "-" ∷ rest)
inner_then slur_inside rest = code "." ∷ code "(" ∷ rest
inner_then (passed_inside byte) rest = byte ∷ rest
inner_then lone_inside rest = code "!" ∷ rest

pub record IsName (name : List ℕ) : Type 0 where
  pub some : 1 ≤ length name
  pub bytes : list_all is_name_byte name ≡ true

-- a space, a tab, and the parentheses of slurs
abbrev pub is_passed_inside : ℕ → Bool
is_passed_inside byte = one_of (codes " \t()") byte

abbrev pub is_letter_inside : ℕ → Bool
is_letter_inside byte = byte == code "." || is_deco_letter byte

-- if an exclamation mark is a line break, there is none inside
abbrev pub IsInner : Bool → Inner → Type 0
IsInner bang (note_inside f) = IsNote f
IsInner bang (letter_inside byte) = is_letter_inside byte ≡ true
IsInner bang (named_inside name) = (bang ≡ false) × IsName name
IsInner bang (tie_inside dotted) = Unit {0}
IsInner bang slur_inside = Unit {0}
IsInner bang (passed_inside byte) = is_passed_inside byte ≡ true
IsInner bang lone_inside = bang ≡ false

pub record StandsInside (bang : Bool) (part : Inner) (text rest : List ℕ) : Type 0 where
  pub good : IsInner bang part
  pub cut : text ≡ inner_then part rest

-- the meaning of a part
pub data Sense : Type 0 where
  says_note : Head → Len → Sense
  says_letter : (byte : ℕ) → Sense
  says_name : (name : List ℕ) → Sense
  says_tie : Sense
  says_nothing : Sense

abbrev pub sense : Inner → Sense
sense (note_inside f) = says_note (head_of f) (len_of f.length)
sense (letter_inside byte) = says_letter byte
sense (named_inside name) = says_name name
sense (tie_inside dotted) = says_tie
sense slur_inside = says_nothing
sense (passed_inside byte) = says_nothing
sense lone_inside = says_nothing

abbrev pub is_inner_note : Sense → Bool
is_inner_note (says_note head len) = true
is_inner_note _ = false

abbrev pub has_length : Inner → Bool
has_length part = is_inner_note (sense part)

-- a byte where there is no part
abbrev pub IsBadByte : List ℕ → Flaw → Type 0
IsBadByte text flaw = flaw ≡ record { kind = BadByte; left = length text }

abbrev pub InnerParts : Bool → List ℕ → List Inner → Type 0
InnerParts bang text parts = Parts Inner (StandsInside bang) text parts

abbrev pub InnerFlawed : Bool → Option ℕ → List ℕ → Flaw → Type 0
InnerFlawed bang before text flaw = Flawed Inner (StandsInside bang) has_length IsBadByte before text flaw

-- ---- reading: a link between these and the code
abbrev pub ReadInner : Type 0
ReadInner = Option (Inner × List ℕ)

abbrev pub inner_read : Inner → List ℕ → ReadInner
inner_read part rest = Some (part, rest)

abbrev pub closed_name : List ℕ → List ℕ → Option (List ℕ × List ℕ)
closed_name [] rest = None
closed_name (byte ∷ name) [] = None
closed_name (byte ∷ name) (mark ∷ rest) = if mark == code "!" then Some (byte ∷ name, rest) else None

-- a name and the exclamation mark after it
unfoldable pub name_at : List ℕ → Option (List ℕ × List ℕ)
name_at text = let name = span_all is_name_byte text in closed_name name.0 name.1

abbrev pub is_note_byte : ℕ → Bool
is_note_byte byte = is_note_letter byte || one_of (codes "^_=") byte

unfoldable pub item_class : ℕ → ItemClass
item_class byte =
    if is_note_byte byte then ItemClass.Note
    else (if byte == code "." then ItemClass.Dot
    else (if is_deco_letter byte then ItemClass.Letter
    else (if byte == code "-" then ItemClass.Tie
    else (if is_passed_inside byte then ItemClass.Passed
    else (if byte == code "!" then ItemClass.Bang
    else ItemClass.Nothing)))))

abbrev pub dot_inside : List ℕ → ReadInner
dot_inside [] = inner_read (letter_inside (code ".")) []
dot_inside (byte ∷ rest) =
    if byte == code "(" then inner_read slur_inside rest
    else (if byte == code "-" then inner_read (tie_inside true) rest
    else inner_read (letter_inside (code ".")) (byte ∷ rest))

abbrev pub named_or : Option (List ℕ × List ℕ) → List ℕ → ReadInner
named_or None text = inner_read lone_inside text
named_or (Some named) text = inner_read (named_inside named.0) named.1

abbrev pub inner_by_class : ItemClass → Bool → ℕ → List ℕ → ReadInner
inner_by_class ItemClass.Note bang byte rest = option_map (λ z. (note_inside z.0, z.1)) (note_at (byte ∷ rest))
inner_by_class ItemClass.Dot bang byte rest = dot_inside rest
inner_by_class ItemClass.Letter bang byte rest = inner_read (letter_inside byte) rest
inner_by_class ItemClass.Tie bang byte rest = inner_read (tie_inside false) rest
inner_by_class ItemClass.Passed bang byte rest = inner_read (passed_inside byte) rest
inner_by_class ItemClass.Bang bang byte rest = if bang then None else named_or (name_at rest) rest
inner_by_class ItemClass.Nothing bang byte rest = None

unfoldable pub inner_at : Bool → List ℕ → ReadInner
inner_at bang [] = None
inner_at bang (byte ∷ rest) = inner_by_class (item_class byte) bang byte rest

-- the meaning of a part as the code has read it
abbrev pub sense_of : InnerPiece → Sense
sense_of (InnerPiece.Note head len) = says_note head len
sense_of (InnerPiece.Letter byte) = says_letter byte
sense_of (InnerPiece.Named name) = says_name name.now
sense_of InnerPiece.Tie = says_tie
sense_of InnerPiece.Passed = says_nothing

abbrev pub sensed : Sense → List ℕ → Sense × List ℕ
sensed part rest = (part, rest)

-- the kind of fault at such a byte, `here` bytes from the end, after a part with a length at `at`, if any
abbrev pub inner_flaw : Option ℕ → ℕ → ℕ → Flaw
inner_flaw None byte here = record { kind = BadByte; left = here }
inner_flaw (Some at) byte here =
    if goes_on_length byte then record { kind = BadLength; left = at } else record { kind = BadByte; left = here }
