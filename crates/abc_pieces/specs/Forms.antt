-- The pieces of a music line: the bytes of each kind, the token that it spells, and its effect on the next piece. A
-- piece is the spelling of a token, or one item that is skipped.
use Prim.Native.Char.{code}
use Rattle.std.specs.Prelude.{◌≡◌, ℕ, ◌≤◌, List, [], ◌∷◌, ◌++◌, map, Bool, true, false, not, ◌==◌, ◌&&◌, ◌||◌}
use Rattle.std.specs.Prelude.{if◌then◌else◌, Option, Some, None, codes}
use Rattle.std.specs.List.{list_all}
use Rattle.mus_units.specs.Bytes.{is_within, is_either, is_digit, is_blank, is_letter}
use Rattle.abc_notes.specs.Runs.{copies, maybe, one_of, begins}
use Rattle.abc_notes.specs.Lengths.{LengthForm, length_then, IsWrittenLength, len_of, IsCount, count_of}
use Rattle.abc_notes.specs.Notes.{NoteForm, note_then, IsNote, head_of}
use Rattle.abc_notes.specs.Decorations.{deco_of_letter, deco_of_name}
use Rattle.abc_notes.specs.Items.{IsName, is_letter_inside, sense}
use Rattle.abc_notes.specs.Chords.{ChordForm, chord_then, IsChord, heads_of, decos_of, is_inside}
use Rattle.abc_notes.specs.Graces.{GraceForm, grace_then, IsGrace, body_of}
use Rattle.abc_pieces.specs.Bars.{BarForm, spelled as bar_then, IsGoodBar as IsBar, bar_meant as bar_of}
use Rattle.abc_pieces.specs.Tuplets.{TupletForm, tuplet_then, IsTuplet, p_of, q_of, r_of}
use Rattle.abc_pieces.specs.declared.token.Token.{Token}
use Rattle.abc_pieces.specs.declared.token.PieceBefore.{PieceBefore}
use Rattle.abc_pieces.specs.declared.token.BracketOpening.{BracketOpening}

pub data Form : Type 0 where
  note_form : NoteForm → Form
  rest_form : (seen : Bool) → LengthForm → Form
  gap_form : LengthForm → Form
  measures_form : (seen : Bool) (count : List ℕ) → Form
  chord_form : ChordForm → Form
  grace_form : GraceForm → Form
  tuplet_form : TupletForm → Form
  slur_form : (dotted : Bool) → Form
  close_form : Form
  tie_form : (dotted : Bool) → Form
  broken_form : (right : Bool) (count : ℕ) → Form
  bar_form : BarForm → Form
  ending_form : (bracket : Bool) (digit : ℕ) (more : List ℕ) → Form
  letter_form : (byte : ℕ) → Form
  named_form : (name : List ℕ) → Form
  says_form : (text : List ℕ) → Form
  inline_form : (letter : ℕ) (text : List ℕ) → Form
  cut_form : (byte : ℕ) → Form
  space_form : (blank : ℕ) (more : List ℕ) → Form
  passed_form : (byte : ℕ) → Form
  lone_form : Form
  plus_form : (text : List ℕ) → Form

-- digits, commas and hyphens
abbrev pub is_ending : ℕ → Bool
is_ending b = is_digit b || is_either (codes ",-") b

abbrev pub is_quoted_byte : ℕ → Bool
is_quoted_byte b = not (b == code "\"")

-- between two plus signs: no plus sign, blank or bar sign
abbrev pub is_plus_byte : ℕ → Bool
is_plus_byte b = not (one_of (codes "+ \t|") b)

-- ` * ; ? @ # \ and the letters that mean nothing: h to t, w, I J K N Q R U V W
abbrev pub is_passed_sign : ℕ → Bool
is_passed_sign b = one_of (codes "`*;?@#\\") b

abbrev pub is_passed_letter : ℕ → Bool
is_passed_letter b = one_of (codes "wIJKNQRUVW") b

abbrev pub is_passed : ℕ → Bool
is_passed b = is_passed_sign b || is_passed_letter b || is_within (codes "ht") b

abbrev pub arrow : Bool → ℕ
arrow right = if right then code ">" else code "<"

abbrev pub rest_byte : Bool → ℕ
rest_byte seen = if seen then code "z" else code "x"

abbrev pub measures_byte : Bool → ℕ
measures_byte seen = if seen then code "Z" else code "X"

abbrev pub bracket_then : Bool → List ℕ → List ℕ
bracket_then true s = code "[" ∷ s
bracket_then false s = s

-- the bytes of a piece, and the rest after them
abbrev pub spelled : Form → List ℕ → List ℕ
spelled (note_form f) x = note_then f x
spelled (rest_form seen len) x = rest_byte seen ∷ length_then len x
spelled (gap_form len) x = code "y" ∷ length_then len x
spelled (measures_form seen count) x = measures_byte seen ∷ (count ++ x)
spelled (chord_form f) x = code "[" ∷ chord_then f x
spelled (grace_form f) x = code "{" ∷ grace_then f x
spelled (tuplet_form f) x = code "(" ∷ tuplet_then f x
spelled (slur_form dotted) x = maybe dotted (code ".") (code "(" ∷ x)
spelled close_form x = code ")" ∷ x
spelled (tie_form dotted) x = maybe dotted (code ".") (code "-" ∷ x)
spelled (broken_form right count) x = copies count (arrow right) x
spelled (bar_form f) x = bar_then f x
spelled (ending_form bracket digit more) x = bracket_then bracket (digit ∷ (more ++ x))
spelled (letter_form byte) x = byte ∷ x
spelled (named_form name) x = code "!" ∷ (name ++ (code "!" ∷ x))
spelled (says_form text) x = code "\"" ∷ (text ++ (code "\"" ∷ x))
spelled (inline_form letter text) x = code "[" ∷ letter ∷ code ":" ∷ (text ++ (code "]" ∷ x))
spelled (cut_form byte) x = byte ∷ x
spelled (space_form blank more) x = blank ∷ (more ++ x)
spelled (passed_form byte) x = byte ∷ x
spelled lone_form x = code "!" ∷ x
spelled (plus_form text) x = code "+" ∷ (text ++ (code "+" ∷ x))

-- what follows an opening bracket: a bar sign makes a bar, a digit an ending, a letter and a colon an inline field;
-- anything else is a chord
abbrev pub opening : List ℕ → BracketOpening
opening [] = BracketOpening.Chord
opening (byte ∷ rest) =
    if byte == code "|" then BracketOpening.Bar
    else (if is_digit byte then BracketOpening.Ending
    else (if is_letter byte && begins (λ b. b == code ":") rest then BracketOpening.Inline
    else BracketOpening.Chord))

-- a dollar sign, or an exclamation mark where it is a line break
abbrev pub is_cut : Bool → ℕ → Bool
is_cut bang byte = byte == code "$" || (bang && byte == code "!")

abbrev pub IsGoodForm : Bool → Form → Type 0
IsGoodForm bang (note_form f) = IsNote f
IsGoodForm bang (rest_form seen len) = IsWrittenLength len
IsGoodForm bang (gap_form len) = IsWrittenLength len
IsGoodForm bang (measures_form seen count) = IsCount 3 count
IsGoodForm bang (chord_form f) = IsChord bang f × (opening (chord_then f []) ≡ BracketOpening.Chord)
IsGoodForm bang (grace_form f) = IsGrace bang f
IsGoodForm bang (tuplet_form f) = IsTuplet f
IsGoodForm bang (slur_form dotted) = Unit {0}
IsGoodForm bang close_form = Unit {0}
IsGoodForm bang (tie_form dotted) = Unit {0}
IsGoodForm bang (broken_form right count) = (1 ≤ count) × (count ≤ 3)
IsGoodForm bang (bar_form f) = IsBar f
IsGoodForm bang (ending_form bracket digit more) = (is_digit digit ≡ true) × (list_all is_ending more ≡ true)
IsGoodForm bang (letter_form byte) = is_letter_inside byte ≡ true
IsGoodForm bang (named_form name) = (bang ≡ false) × IsName name
IsGoodForm bang (says_form text) = list_all is_quoted_byte text ≡ true
IsGoodForm bang (inline_form letter text) = (is_letter letter ≡ true) × (list_all is_inside text ≡ true)
IsGoodForm bang (cut_form byte) = is_cut bang byte ≡ true
IsGoodForm bang (space_form blank more) = (is_blank blank ≡ true) × (list_all is_blank more ≡ true)
IsGoodForm bang (passed_form byte) = (is_passed byte || byte == code "+") ≡ true
IsGoodForm bang lone_form = bang ≡ false
IsGoodForm bang (plus_form text) = list_all is_plus_byte text ≡ true

-- K, L, M and V
abbrev pub is_kept_field : ℕ → Bool
is_kept_field letter = one_of (codes "KLMV") letter

abbrev pub inline_token : ℕ → List ℕ → Option Token
inline_token letter text = if is_kept_field letter then Some (Token.Inline letter text) else None

-- the token that a piece spells, if it spells one
abbrev pub token_meant : Form → Option Token
token_meant (note_form f) = Some (Token.Note (head_of f) (len_of f.length))
token_meant (rest_form seen len) = Some (Token.Rest seen (len_of len))
token_meant (gap_form len) = None
token_meant (measures_form seen count) = Some (Token.Measures seen (count_of count))
token_meant (chord_form f) =
    let said = map sense f.parts in
    Some (Token.Chord (record { heads = heads_of said; decos = decos_of said; len = len_of f.length }))
token_meant (grace_form f) = Some (Token.Grace f.slash (body_of f.parts))
token_meant (tuplet_form f) = Some (Token.Tuplet (p_of f) (q_of f) (r_of f))
token_meant (slur_form dotted) = Some Token.SlurOn
token_meant close_form = Some Token.SlurOff
token_meant (tie_form dotted) = Some Token.Tie
token_meant (broken_form right count) = Some (Token.Broken right count)
token_meant (bar_form f) = Some (Token.Bar (bar_of f))
token_meant (ending_form bracket digit more) = Some (Token.Ending (digit ∷ more))
token_meant (letter_form byte) = Some (Token.Deco (deco_of_letter byte))
token_meant (named_form name) = Some (Token.Deco (deco_of_name name))
token_meant (says_form text) = Some (Token.Says text)
token_meant (inline_form letter text) = inline_token letter text
token_meant (cut_form byte) = Some Token.Cut
token_meant (space_form blank more) = Some Token.Space
token_meant (passed_form byte) = None
token_meant lone_form = None
token_meant (plus_form text) = None

-- the effect of a piece on the next
abbrev pub after : Form → PieceBefore
after (note_form f) = PieceBefore.Lengthy
after (rest_form seen len) = PieceBefore.Lengthy
after (gap_form len) = PieceBefore.Lengthy
after (measures_form seen count) = PieceBefore.Other
after (chord_form f) = PieceBefore.Lengthy
after (grace_form f) = PieceBefore.Other
after (tuplet_form f) = PieceBefore.Paren
after (slur_form dotted) = if dotted then PieceBefore.Other else PieceBefore.Paren
after close_form = PieceBefore.Other
after (tie_form dotted) = PieceBefore.Other
after (broken_form right count) = PieceBefore.Broken right
after (bar_form f) = PieceBefore.Bar
after (ending_form bracket digit more) = PieceBefore.Other
after (letter_form byte) = PieceBefore.Other
after (named_form name) = PieceBefore.Other
after (says_form text) = PieceBefore.Other
after (inline_form letter text) = PieceBefore.Other
after (cut_form byte) = PieceBefore.Other
after (space_form blank more) = PieceBefore.Other
after (passed_form byte) = PieceBefore.Other
after lone_form = PieceBefore.Other
after (plus_form text) = PieceBefore.Other

abbrev pub is_after_bar : PieceBefore → Bool
is_after_bar PieceBefore.Bar = true
is_after_bar (PieceBefore.Broken right) = false
is_after_bar PieceBefore.Lengthy = false
is_after_bar PieceBefore.Paren = false
is_after_bar PieceBefore.Other = false

abbrev pub same_way : Bool → Bool → Bool
same_way true right = right
same_way false right = not right

abbrev pub is_after_broken : Bool → PieceBefore → Bool
is_after_broken right PieceBefore.Bar = false
is_after_broken right (PieceBefore.Broken other) = same_way right other
is_after_broken right PieceBefore.Lengthy = false
is_after_broken right PieceBefore.Paren = false
is_after_broken right PieceBefore.Other = false

-- digits are an ending only after a bar, and an arrow doesn't follow an arrow of the same direction
abbrev pub IsAllowed : PieceBefore → Form → Type 0
IsAllowed before (ending_form bracket digit more) = (bracket || is_after_bar before) ≡ true
IsAllowed before (broken_form right count) = is_after_broken right before ≡ false
IsAllowed before _ = Unit {0}

-- the piece is at the start of s, after a piece with the effect `before`, and `rest` follows it
pub record StandsAt (bang : Bool) (before : PieceBefore) (f : Form) (s rest : List ℕ) : Type 0 where
  pub good : IsGoodForm bang f
  pub allowed : IsAllowed before f
  pub cut : s ≡ spelled f rest
