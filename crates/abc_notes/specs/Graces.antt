-- A grace group: a slash or none, and notes and chords between braces. A name in the group, even in a chord of it,
-- may contain a closing brace; a group is as long as it can be.
use Prim.Native.Char.{code}
use Rattle.std.specs.Prelude.{◌≡◌, ◌≤◌, ◌<◌, ◌-◌, ℕ, zero, suc, List, [], ◌∷◌, ◌++◌, length, take, drop, map, Bool}
use Rattle.std.specs.Prelude.{true, false, not, ◌==◌, ◌&&◌, if◌then◌else◌, Option, Some, None, option_map, MatchBool}
use Rattle.std.specs.List.{list_all}
use Rattle.{mus_units.specs.declared.note.Head.{Head}, abc_lines.specs.declared.fault.FaultKind.TheVariants.{Unclosed}}
use Rattle.abc_notes.specs.Items.{Inner, Sense, says_note, sense, inner_then, IsInner, has_length, name_at, inner_at}
use Rattle.abc_notes.specs.Items.{IsBadByte, sense_of, is_inner_note}
use Rattle.abc_notes.specs.declared.part.Flaw.{Flaw}
use Rattle.abc_notes.specs.declared.part.GraceChord.{GraceChord}
use Rattle.abc_notes.specs.declared.part.GracePiece.{GracePiece}
use Rattle.abc_notes.specs.Runs.{maybe, skip, span_all, begins}
use Rattle.abc_notes.specs.Chords.{ChordForm, chord_then, IsChord, ChordFault, chord_at, senses}
use Rattle.abc_notes.specs.Lengths.{length_from}
use Rattle.abc_notes.specs.Parts.{Parts, HasNone, LeadsByParts, Flawed, IsFlaw, goes_on_length, walk, is_done}

pub data GracePart : Type 0 where
  single : Inner → GracePart
  chorded : ChordForm → GracePart

abbrev pub grace_part_then : GracePart → List ℕ → List ℕ
grace_part_then (single part) rest = inner_then part rest
grace_part_then (chorded f) rest = code "[" ∷ chord_then f rest

abbrev pub is_in_grace : ℕ → Bool
is_in_grace byte = not (byte == code "}")

abbrev pub IsGracePart : Bool → GracePart → Type 0
IsGracePart bang (single part) = IsInner bang part
IsGracePart bang (chorded f) = IsChord bang f

pub record StandsInGrace (bang : Bool) (part : GracePart) (text rest : List ℕ) : Type 0 where
  pub good : IsGracePart bang part
  pub cut : text ≡ grace_part_then part rest

abbrev pub part_has_length : GracePart → Bool
part_has_length (single part) = has_length part
part_has_length (chorded f) = true

abbrev pub GraceParts : Bool → List ℕ → List GracePart → Type 0
GraceParts bang text parts = Parts GracePart (StandsInGrace bang) text parts

pub record GraceForm : Type 0 where
  pub slash : Bool
  pub inside : List ℕ
  pub parts : List GracePart

abbrev pub is_slash_byte : ℕ → Bool
is_slash_byte byte = byte == code "/"

-- what follows the opening brace, and the rest after the group
abbrev pub grace_then : GraceForm → List ℕ → List ℕ
grace_then f rest = maybe f.slash (code "/") (f.inside ++ (code "}" ∷ rest))

pub record IsGrace (bang : Bool) (f : GraceForm) : Type 0 where
  pub parts : GraceParts bang f.inside f.parts
  pub slash_is_read : f.slash ≡ false → begins is_slash_byte f.inside ≡ false

-- notes and chords; ties inside are skipped
abbrev pub heads_in : List Sense → List Head
heads_in [] = []
heads_in (says_note head len ∷ more) = head ∷ heads_in more
heads_in (_ ∷ more) = heads_in more

abbrev pub body_of_sense : Sense → List GraceChord
body_of_sense (says_note head len) = record { heads = head ∷ [] } ∷ []
body_of_sense _ = []

abbrev pub body_of_part : GracePart → List GraceChord
body_of_part (single part) = body_of_sense (sense part)
body_of_part (chorded f) = record { heads = heads_in (map sense f.parts) } ∷ []

abbrev pub body_of : List GracePart → List GraceChord
body_of [] = []
body_of (part ∷ more) = body_of_part part ++ body_of more

-- where there is no part: at a bracket the fault of a chord, otherwise the byte
abbrev pub IsGraceOwn : Bool → List ℕ → Flaw → Type 0
IsGraceOwn bang [] flaw = ⊥
IsGraceOwn bang (byte ∷ rest) flaw =
    MatchBool (byte == code "[") (ChordFault bang rest flaw) (IsBadByte (byte ∷ rest) flaw)

abbrev pub GraceFlawed : Bool → Option ℕ → List ℕ → Flaw → Type 0
GraceFlawed bang before text flaw =
    Flawed GracePart (StandsInGrace bang) part_has_length (IsGraceOwn bang) before text flaw

-- the parts after an opening brace and its slash as the line goes on, each as long as it can be
abbrev pub GraceLeads : Bool → List ℕ → List GracePart → List ℕ → Type 0
GraceLeads bang text parts rest = LeadsByParts GracePart (StandsInGrace bang) text parts rest

-- the slash after an opening brace, if there is one
pub record HasSlash (text : List ℕ) (slash : Bool) (following : List ℕ) : Type 0 where
  pub cut : text ≡ maybe slash (code "/") following
  pub is_read : slash ≡ false → begins is_slash_byte following ≡ false

-- the fault after an opening brace, where there is no grace group: no closing brace follows, or only parts follow up
-- to the end; or the first fault of the parts, which stop at another byte
pub data GraceFault (bang : Bool) : List ℕ → Flaw → Type 0 where
  grace_unclosed : (text : List ℕ)
      → list_all is_in_grace text ≡ true → GraceFault bang text (record { kind = Unclosed; left = suc (length text) })
  grace_open : (text : List ℕ) (slash : Bool) (following : List ℕ) (parts : List GracePart)
      → HasSlash text slash following → GraceLeads bang following parts []
      → GraceFault bang text (record { kind = Unclosed; left = suc (length text) })
  grace_flawed : (text : List ℕ) (slash : Bool) (following : List ℕ) (parts : List GracePart) (byte : ℕ) (rest : List ℕ)
      (flaw : Flaw)
      → list_all is_in_grace text ≡ false → HasSlash text slash following
      → GraceLeads bang following parts (byte ∷ rest) → HasNone GracePart (StandsInGrace bang) (byte ∷ rest)
      → (byte == code "}") ≡ false
      → GraceFlawed bang None following flaw
      → GraceFault bang text flaw

-- ---- reading: a link between these and the code
abbrev pub chorded_read : ChordForm × List ℕ → GracePart × List ℕ
chorded_read z = (chorded z.0, z.1)

abbrev pub single_read : Inner × List ℕ → GracePart × List ℕ
single_read z = (single z.0, z.1)

unfoldable pub grace_part_at : Bool → List ℕ → Option (GracePart × List ℕ)
grace_part_at bang [] = None
grace_part_at bang (byte ∷ rest) =
    if byte == code "[" then option_map chorded_read (chord_at bang rest)
    else option_map single_read (inner_at bang (byte ∷ rest))

-- the brace at the start closes the group
abbrev pub brace_here : List ℕ → Option (List ℕ)
brace_here [] = None
brace_here (byte ∷ rest) = if byte == code "}" then Some (byte ∷ rest) else None

-- the first brace in a name, if only parts come before it
abbrev pub brace_in : Bool → List ℕ → Option (List ℕ × List ℕ) → Option (List ℕ)
brace_in bang text None = None
brace_in bang text (Some named) =
    let inside = span_all is_in_grace named.0 in
    if not (length inside.1 == 0) && is_done (walk (grace_part_at bang) inside.0)
    then Some (drop (length inside.0) text)
    else None

-- the brace that closes a group if the leading exclamation mark begins no name
unfoldable pub brace_in_name : Bool → List ℕ → Option (List ℕ)
brace_in_name bang [] = None
brace_in_name bang (byte ∷ rest) = if byte == code "!" && not bang then brace_in bang rest (name_at rest) else None

abbrev pub is_brace : ℕ → Bool
is_brace byte = byte == code "}"

-- there is a brace n bytes on, and only parts come before it
abbrev pub closes_at : Bool → List ℕ → ℕ → Bool
closes_at bang text n = begins is_brace (drop n text) && is_done (walk (grace_part_at bang) (take n text))

-- the last brace, at most n bytes on, before which there are only parts
abbrev pub last_closing : Bool → List ℕ → ℕ → Option (List ℕ)
last_closing bang text zero = if closes_at bang text 0 then Some text else None
last_closing bang text (suc n) =
    if closes_at bang text (suc n) then Some (drop (suc n) text) else last_closing bang text n

-- the last brace at which a group may end
unfoldable pub brace_at : Bool → List ℕ → Option (List ℕ)
brace_at bang text = last_closing bang text (length text)

-- the last brace of a text that begins with the bracket of a chord, or none
unfoldable pub brace_in_chord : Bool → List ℕ → Option (List ℕ)
brace_in_chord bang inside = brace_at bang (code "[" ∷ inside)

-- after a chord, which is given from its closing bracket on
abbrev pub brace_after : Bool → List ℕ → Option (List ℕ)
brace_after bang [] = None
brace_after bang (bracket ∷ rest) = brace_at bang (length_from rest).1

-- after the chord that ends at the bracket, up to the closing byte of a longer one
abbrev pub brace_between : Bool → Option (List ℕ) → Option (List ℕ) → Option (List ℕ)
brace_between bang bracket None = None
brace_between bang None (Some closing) = None
brace_between bang (Some bracket) (Some closing) =
    option_map (λ brace. brace ++ closing) (brace_after bang (take (length bracket - length closing) bracket))

-- the closing byte comes after the bracket
abbrev pub stands_after : Option (List ℕ) → Option (List ℕ) → Type 0
stands_after bracket None = Unit {0}
stands_after None (Some closing) = Unit {0}
stands_after (Some bracket) (Some closing) = bracket ≡ take (length bracket - length closing) bracket ++ closing

abbrev pub at_most_bytes : ℕ → Option (List ℕ) → Type 0
at_most_bytes most None = Unit {0}
at_most_bytes most (Some bytes) = length bytes ≤ most

-- the last brace at which a group may end within its first part
abbrev pub brace_in_part : Bool → GracePart → List ℕ → Option (List ℕ)
brace_in_part bang (single part) text = brace_in_name bang text
brace_in_part bang (chorded f) text =
    option_map (λ brace. brace ++ drop (suc (length f.inside)) text) (brace_in_chord bang f.inside)

abbrev pub grace_from : Bool → Bool → List ℕ → Option (List ℕ) → Option (GraceForm × List ℕ)
grace_from bang slash text None = None
grace_from bang slash text (Some []) = None
grace_from bang slash text (Some (brace ∷ rest)) =
    let inside = take (length text - suc (length rest)) text in
    Some (record { slash = slash; inside = inside; parts = (walk (grace_part_at bang) inside).0 }, rest)

unfoldable pub grace_at : Bool → List ℕ → Option (GraceForm × List ℕ)
grace_at bang text = let slash = skip (code "/") text in grace_from bang slash.0 slash.1 (brace_at bang slash.1)

-- a part as the code reads it: what it adds to the body, whether it has a length, and what is between its brackets if
-- it is a chord
abbrev pub bodied : List GraceChord
    → Bool → Option (List ℕ) → List ℕ → List GraceChord × Bool × Option (List ℕ) × List ℕ
bodied body lengthy inside rest = (body, lengthy, inside, rest)

abbrev pub inside_of_part : GracePart → Option (List ℕ)
inside_of_part (single part) = None
inside_of_part (chorded f) = Some f.inside

abbrev pub inside_of_item : GracePiece → Option (List ℕ)
inside_of_item (GracePiece.Part part) = None
inside_of_item (GracePiece.Chord inside) = Some inside.now

-- a part that the code has read from a text
abbrev pub IsItemAt : Bool → GracePiece → List ℕ → Type 0
IsItemAt bang (GracePiece.Part part) text = Unit {0}
IsItemAt bang (GracePiece.Chord inside) text =
    (length inside.now < length text)
    × (is_done (walk (inner_at bang) inside.now) ≡ true)
    × (text ≡ (code "[" ∷ inside.now) ++ drop (suc (length inside.now)) text)

abbrev pub brace_in_item : Bool → GracePiece → List ℕ → Option (List ℕ)
brace_in_item bang (GracePiece.Part part) text = brace_in_name bang text
brace_in_item bang (GracePiece.Chord inside) text =
    option_map (λ brace. brace ++ drop (suc (length inside.now)) text) (brace_in_chord bang inside.now)

abbrev pub body_of_item : Bool → GracePiece → List GraceChord
body_of_item bang (GracePiece.Part part) = body_of_sense (sense_of part)
body_of_item bang (GracePiece.Chord inside) = record { heads = heads_in (senses bang inside.now) } ∷ []

abbrev pub item_has_length : GracePiece → Bool
item_has_length (GracePiece.Part part) = is_inner_note (sense_of part)
item_has_length (GracePiece.Chord inside) = true

abbrev pub body_inside : Bool → List ℕ → List GraceChord
body_inside bang inside = body_of (walk (grace_part_at bang) inside).0

abbrev pub plain_head : Sense → List Head
plain_head (says_note head len) = head ∷ []
plain_head _ = []

abbrev pub grace_shown : Bool → List GraceChord → List ℕ → List ℕ → Bool × List GraceChord × List ℕ × List ℕ
grace_shown slash body inside rest = (slash, body, inside, rest)

-- the same at the start of a text that has a byte
abbrev pub IsPartFlaw : Bool → Option ℕ → List ℕ → Flaw → Type 0
IsPartFlaw bang before [] flaw = ⊥
IsPartFlaw bang before (byte ∷ rest) flaw = IsFlaw (IsGraceOwn bang) before byte rest flaw

-- the text of a chord that is a part has at most `most` bytes
abbrev pub item_within : GracePiece → ℕ → Type 0
item_within (GracePiece.Part part) most = Unit {0}
item_within (GracePiece.Chord inside) most = length inside.now ≤ most

abbrev pub goes_on_first : List ℕ → Bool
goes_on_first [] = false
goes_on_first (byte ∷ rest) = goes_on_length byte
