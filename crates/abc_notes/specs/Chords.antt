-- A chord: what is between its brackets, which is read part by part, and the length after them. A name inside may
-- contain a closing bracket; a chord is as long as it can be.
use Prim.Native.Char.{code}
use Rattle.std.specs.Prelude.{◌≡◌, ◌≤◌, ◌-◌, ℕ, suc, List, [], ◌∷◌, ◌++◌, length, take, drop, map, Bool, true, false}
use Rattle.std.specs.Prelude.{not, ◌==◌, ◌||◌, ◌&&◌, if◌then◌else◌, Option, Some, None}
use Rattle.std.specs.List.{list_all}
use Rattle.mus_units.specs.declared.note.Head.{Head}
use Rattle.mus_units.specs.declared.note.Deco.{Deco}
use Rattle.abc_lines.specs.declared.fault.FaultKind.TheVariants.{BadByte, Unclosed}
use Rattle.abc_notes.specs.Items.{Inner, Sense, says_note, says_letter, says_name, says_tie, sense, inner_then}
use Rattle.abc_notes.specs.Items.{has_length, StandsInside, InnerParts, InnerFlawed, name_at, inner_at}
use Rattle.abc_notes.specs.declared.part.Flaw.{Flaw}
use Rattle.abc_notes.specs.declared.part.Len.{Len}
use Rattle.abc_notes.specs.Runs.{span_all}
use Rattle.abc_notes.specs.Lengths.{LengthForm, length_then, IsWrittenLength, length_from}
use Rattle.abc_notes.specs.Decorations.{deco_of_letter, deco_of_name}
use Rattle.abc_notes.specs.Parts.{HasNone, LeadsByParts, walk, is_done, spelled_then, later_or}

pub record ChordForm : Type 0 where
  pub inside : List ℕ
  pub parts : List Inner
  pub length : LengthForm

abbrev pub is_inside : ℕ → Bool
is_inside byte = not (byte == code "]")

abbrev pub is_bracket : ℕ → Bool
is_bracket byte = byte == code "]"

abbrev pub has_inner_head : List Inner → Bool
has_inner_head [] = false
has_inner_head (part ∷ more) = has_length part || has_inner_head more

-- what follows the opening bracket, and the rest after the chord
abbrev pub chord_then : ChordForm → List ℕ → List ℕ
chord_then f rest = f.inside ++ (code "]" ∷ length_then f.length rest)

pub record IsChord (bang : Bool) (f : ChordForm) : Type 0 where
  pub parts : InnerParts bang f.inside f.parts
  pub head : has_inner_head f.parts ≡ true
  pub length : IsWrittenLength f.length

-- a head is tied if a tie comes after it and before the next head
abbrev pub is_tied : List Sense → Bool
is_tied [] = false
is_tied (says_note head len ∷ more) = false
is_tied (says_tie ∷ more) = true
is_tied (_ ∷ more) = is_tied more

abbrev pub tied_if : Bool → Head → Head
tied_if tied head = record { pitch = head.pitch; sign = head.sign; tied = tied }

abbrev pub heads_of : List Sense → List (Head × Len)
heads_of [] = []
heads_of (says_note head len ∷ more) = (tied_if (is_tied more) head, len) ∷ heads_of more
heads_of (_ ∷ more) = heads_of more

abbrev pub deco_of : Sense → List Deco
deco_of (says_letter byte) = deco_of_letter byte ∷ []
deco_of (says_name name) = deco_of_name name ∷ []
deco_of _ = []

abbrev pub decos_of : List Sense → List Deco
decos_of [] = []
decos_of (part ∷ more) = deco_of part ++ decos_of more

-- the parts after an opening bracket as the line goes on, each as long as it can be
abbrev pub InnerLeads : Bool → List ℕ → List Inner → List ℕ → Type 0
InnerLeads bang text parts rest = LeadsByParts Inner (StandsInside bang) text parts rest

-- the fault after an opening bracket, where there is no chord: no closing bracket follows, or only parts follow up to
-- the end; or the parts have no head up to a closing bracket; or the first fault of the parts, which stop at another
-- byte
pub data ChordFault (bang : Bool) : List ℕ → Flaw → Type 0 where
  chord_unclosed : (text : List ℕ)
      → list_all is_inside text ≡ true → ChordFault bang text (record { kind = Unclosed; left = suc (length text) })
  chord_open : (text : List ℕ) (parts : List Inner)
      → InnerLeads bang text parts [] → ChordFault bang text (record { kind = Unclosed; left = suc (length text) })
  chord_headless : (text : List ℕ) (parts : List Inner) (rest : List ℕ)
      → InnerLeads bang text parts (code "]" ∷ rest) → has_inner_head parts ≡ false
      → ChordFault bang text (record { kind = BadByte; left = suc (length text) })
  chord_flawed : (text : List ℕ) (parts : List Inner) (byte : ℕ) (rest : List ℕ) (flaw : Flaw)
      → list_all is_inside text ≡ false → InnerLeads bang text parts (byte ∷ rest)
      → HasNone Inner (StandsInside bang) (byte ∷ rest) → (byte == code "]") ≡ false →
      InnerFlawed bang None text flaw → ChordFault bang text flaw

-- ---- reading: a link between these and the code

-- the bracket at the start closes a chord that has a head
abbrev pub bracket_here : Bool → List ℕ → Option (List ℕ)
bracket_here head [] = None
bracket_here head (byte ∷ rest) = if byte == code "]" && head then Some (byte ∷ rest) else None

-- the first bracket in a name, if only parts come before it and there is a head
abbrev pub bracket_in : Bool → Bool → List ℕ → Option (List ℕ × List ℕ) → Option (List ℕ)
bracket_in bang head text None = None
bracket_in bang head text (Some named) =
    let inside = span_all is_inside named.0 in
    let w = walk (inner_at bang) inside.0 in
    if not (length inside.1 == 0) && (is_done w && (head || has_inner_head w.0)) then Some (drop (length inside.0) text)
    else None

-- the bracket that closes a chord if the leading exclamation mark begins no name
unfoldable pub bracket_in_name : Bool → Bool → List ℕ → Option (List ℕ)
bracket_in_name bang head [] = None
bracket_in_name bang head (byte ∷ rest) =
    if byte == code "!" && not bang then bracket_in bang head rest (name_at rest) else None

-- the last bracket at which a chord may end: the one after all the parts, otherwise one in a name
abbrev pub last_bracket : Bool → Bool → List Inner → List ℕ → Option (List ℕ)
last_bracket bang head [] rest = bracket_here head rest
last_bracket bang head (part ∷ more) rest =
    later_or (last_bracket bang (head || has_length part) more rest)
    (bracket_in_name bang head (inner_then part (spelled_then inner_then more rest)))

unfoldable pub bracket_at : Bool → List ℕ → Option (List ℕ)
bracket_at bang text = let w = walk (inner_at bang) text in last_bracket bang false w.0 w.1

abbrev pub chord_from : Bool → List ℕ → Option (List ℕ) → Option (ChordForm × List ℕ)
chord_from bang text None = None
chord_from bang text (Some []) = None
chord_from bang text (Some (bracket ∷ rest)) =
    let inside = take (length text - suc (length rest)) text in
    let len = length_from rest in
    Some (record { inside = inside; parts = (walk (inner_at bang) inside).0; length = len.0 }, len.1)

unfoldable pub chord_at : Bool → List ℕ → Option (ChordForm × List ℕ)
chord_at bang text = chord_from bang text (bracket_at bang text)

-- the meanings of the parts inside
abbrev pub senses : Bool → List ℕ → List Sense
senses bang inside = map sense (walk (inner_at bang) inside).0

-- the heads so far end with one that may still be tied
abbrev pub last_head : Option (Head × Len) → List (Head × Len)
last_head None = []
last_head (Some head) = head ∷ []

abbrev pub tie_last : Option (Head × Len) → Option (Head × Len)
tie_last None = None
tie_last (Some head) = Some (tied_if true head.0, head.1)

-- a part adds the head before it, which no tie can reach any more, and may be a head itself
abbrev pub given_head : Option (Head × Len) → Sense → List (Head × Len)
given_head last (says_note head len) = last_head last
given_head last _ = []

abbrev pub next_last : Option (Head × Len) → Sense → Option (Head × Len)
next_last last (says_note head len) = Some (tied_if false head, len)
next_last last says_tie = tie_last last
next_last last _ = last

abbrev pub heads_after : Option (Head × Len) → List Sense → List (Head × Len)
heads_after last [] = last_head last
heads_after last (part ∷ more) = given_head last part ++ heads_after (next_last last part) more

abbrev pub at_most : ℕ → Option ℕ → Type 0
at_most n None = Unit {0}
at_most n (Some at) = at ≤ n

-- a chord as the code reads it
abbrev pub chord_shown : List Sense → Len → List ℕ → List ℕ → List Sense × Len × List ℕ × List ℕ
chord_shown said len inside rest = (said, len, inside, rest)
