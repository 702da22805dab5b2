-- The tokens of a music line: piece by piece, each the longest at the start of what is left; and the first fault of a
-- line that has no such list.
use Prim.Native.Char.{code}
use Rattle.std.specs.Prelude.{◌≡◌, ℕ, ◌+◌, ◌-◌, ◌≤◌, ◌<◌, List, [], ◌∷◌, ◌++◌, length, Bool, ◌==◌, if◌then◌else◌}
use Rattle.std.specs.Prelude.{Option, Some, None, Result, Ok, Err, MatchBool, MatchOption, option_map}
use Rattle.abc_lines.specs.declared.book.Line.{Line}
use Rattle.abc_lines.specs.declared.fault.Fault.{Fault}
use Rattle.abc_lines.specs.declared.fault.FaultKind.{FaultKind}
use Rattle.abc_lines.specs.declared.fault.TuneError.{TuneError}
use Rattle.abc_lines.specs.declared.fault.FaultKind.TheVariants.{BadByte, Unclosed, BadLength, BadTuplet}
use Rattle.mus_units.specs.Bytes.{is_digit}
use Rattle.abc_notes.specs.Parts.{IsLongest, HasNone, goes_on_length}
use Rattle.abc_notes.specs.Chords.{ChordFault}
use Rattle.abc_notes.specs.Graces.{GraceFault}
use Rattle.abc_notes.specs.declared.part.Flaw.{Flaw}
use Rattle.abc_pieces.specs.Forms.{Form, StandsAt, token_meant, after, arrow, opening}
use Rattle.abc_pieces.specs.declared.token.Token.{Token}
use Rattle.abc_pieces.specs.declared.token.PieceBefore.{PieceBefore}
use Rattle.abc_pieces.specs.declared.token.BracketOpening.{BracketOpening}
use Rattle.abc_music.specs.declared.token.{Placed.Placed, TokenCursor.TokenCursor, LineRest.LineRest}

-- the column at which s begins, for a line of n bytes that ends with s
abbrev pub column : ℕ → ℕ → ℕ
column n left = n + 1 - left

abbrev pub with_token : Option Token → ℕ → List Placed → List Placed
with_token None at ts = ts
with_token (Some t) at ts = record { token = t; column = at } ∷ ts

-- the tokens of what is left of a line of n bytes, after a piece with this effect
pub data Tokens (bang : Bool) (n : ℕ) : PieceBefore → List ℕ → List Placed → Type 0 where
  ends : (before : PieceBefore) → Tokens bang n before [] []
  goes : (before : PieceBefore) (s : List ℕ) (f : Form) (rest : List ℕ) (ts all : List Placed)
      → IsLongest Form (StandsAt bang before) s f rest → Tokens bang n (after f) rest ts
      → all ≡ with_token (token_meant f) (column n (length s)) ts → Tokens bang n before s all

-- a byte that continues the piece before it, and so makes that piece a fault
abbrev pub kind_if : Bool → FaultKind → Option FaultKind
kind_if goes_on kind = if goes_on then Some kind else None

abbrev pub kind_after : PieceBefore → ℕ → Option FaultKind
kind_after PieceBefore.Bar byte = None
kind_after (PieceBefore.Broken right) byte = kind_if (byte == arrow right) BadLength
kind_after PieceBefore.Lengthy byte = kind_if (goes_on_length byte) BadLength
kind_after PieceBefore.Paren byte = kind_if (is_digit byte) BadTuplet
kind_after PieceBefore.Other byte = None

-- a fault of this kind at the first of the bytes
abbrev pub IsHere : FaultKind → List ℕ → Flaw → Type 0
IsHere kind s flaw = flaw ≡ record { kind = kind; left = length s }

-- after a bracket: an inline field that is not closed, or the fault of a chord; a bar sign and a digit always make a
-- piece there
abbrev pub IsBracketFlaw : BracketOpening → Bool → ℕ → List ℕ → Flaw → Type 0
IsBracketFlaw BracketOpening.Bar bang byte s flaw = IsHere BadByte (byte ∷ s) flaw
IsBracketFlaw BracketOpening.Ending bang byte s flaw = IsHere BadByte (byte ∷ s) flaw
IsBracketFlaw BracketOpening.Inline bang byte s flaw = IsHere Unclosed (byte ∷ s) flaw
IsBracketFlaw BracketOpening.Chord bang byte s flaw = ChordFault bang s flaw

-- a byte where there is no piece: a quote that is not closed, what a bracket or a brace opens, or the byte itself
abbrev pub IsOwnFlaw : Bool → ℕ → List ℕ → Flaw → Type 0
IsOwnFlaw bang byte s flaw =
    MatchBool (byte == code "\"") (IsHere Unclosed (byte ∷ s) flaw)
    (MatchBool (byte == code "[") (IsBracketFlaw (opening s) bang byte s flaw)
    (MatchBool (byte == code "{") (GraceFault bang s flaw)
    (IsHere BadByte (byte ∷ s) flaw)))

abbrev pub IsLineFlaw : Bool → PieceBefore → ℕ → ℕ → List ℕ → Flaw → Type 0
IsLineFlaw bang before at byte s flaw =
    MatchOption (kind_after before byte) (IsOwnFlaw bang byte s flaw) (λ kind. flaw ≡ record { kind = kind; left = at })

-- the first fault: after reading the longest pieces, there is no piece at what is left. The piece before it begins
-- `at` bytes from the end.
pub data Faulty (bang : Bool) : PieceBefore → ℕ → List ℕ → Flaw → Type 0 where
  stuck : (before : PieceBefore) (at byte : ℕ) (s : List ℕ) (flaw : Flaw)
      → HasNone Form (StandsAt bang before) (byte ∷ s) → IsLineFlaw bang before at byte s flaw
      → Faulty bang before at (byte ∷ s) flaw
  later : (before : PieceBefore) (at : ℕ) (s : List ℕ) (f : Form) (rest : List ℕ) (flaw : Flaw)
      → IsLongest Form (StandsAt bang before) s f rest → Faulty bang (after f) (length s) rest flaw
      → Faulty bang before at s flaw

-- What a line gives up to its first fault: the tokens of the pieces before it, and the fault, or none if there are
-- pieces up to the end.
pub data GivesTokens (bang : Bool) (n : ℕ) : PieceBefore → ℕ → List ℕ → List Placed → Option Flaw → Type 0 where
  clear : (before : PieceBefore) (at : ℕ) → GivesTokens bang n before at [] [] None
  breaks : (before : PieceBefore) (at byte : ℕ) (s : List ℕ) (flaw : Flaw)
      → HasNone Form (StandsAt bang before) (byte ∷ s) → IsLineFlaw bang before at byte s flaw
      → GivesTokens bang n before at (byte ∷ s) [] (Some flaw)
  leads : (before : PieceBefore) (at : ℕ) (s : List ℕ) (f : Form) (rest : List ℕ) (ts all : List Placed)
      (end : Option Flaw)
      → IsLongest Form (StandsAt bang before) s f rest → GivesTokens bang n (after f) (length s) rest ts end
      → all ≡ with_token (token_meant f) (column n (length s)) ts → GivesTokens bang n before at s all end

-- the tokens of a music line
abbrev pub TokensOf : Bool → List ℕ → List Placed → Type 0
TokensOf bang text ts = Tokens bang (length text) PieceBefore.Other text ts

abbrev pub FlawOf : Bool → List ℕ → Flaw → Type 0
FlawOf bang text flaw = Faulty bang PieceBefore.Other 0 text flaw

abbrev pub GivesTokensAt : Bool → List ℕ → List Placed → Option Flaw → Type 0
GivesTokensAt bang text ts end = GivesTokens bang (length text) PieceBefore.Other 0 text ts end

abbrev pub fault_at : Line → Flaw → Fault
fault_at line flaw = record { kind = flaw.kind; line = line.number; column = column (length line.text) flaw.left }

-- a fault is the first of the line, and is returned only if there is no list; Memory is always allowed
abbrev pub IsErrorOf : Bool → Line → TuneError → Type 0
IsErrorOf bang line TuneError.Memory = Unit {0}
IsErrorOf bang line (TuneError.Fault fault) =
    (flaw : Flaw)
    × FlawOf bang line.text flaw
    × (fault ≡ fault_at line flaw)
    × ((ts : List Placed) → TokensOf bang line.text ts → ⊥)

-- the tokens before the first fault of a line, and that fault if the line has one
abbrev pub GivesTokensOf : Bool → Line → List Placed → Option Fault → Type 0
GivesTokensOf bang line ts fault =
    (end : Option Flaw) × GivesTokensAt bang line.text ts end × (fault ≡ option_map (fault_at line) end)

-- no other tokens come before the first fault, and there is no other such fault
abbrev pub IsOnlyPrefix : Bool → Line → List Placed → Option Fault → Type 0
IsOnlyPrefix bang line ts fault =
    (others : List Placed) (other : Option Fault)
    → GivesTokensOf bang line others other → (ts ≡ others) × (fault ≡ other)

-- the result of a music line: its tokens, or its first fault if it has no list of tokens
abbrev pub IsLineResult : Bool → Line → Result (List Placed) Fault → Type 0
IsLineResult bang line (Ok ts) = TokensOf bang line.text ts
IsLineResult bang line (Err fault) = IsErrorOf bang line (TuneError.Fault fault)

-- the cursor at the start of a line
pub record IsStart (line : Line) (place : TokenCursor) : Type 0 where
  pub rest : place.rest.now ≡ line.text
  pub before : place.before ≡ PieceBefore.Other
  pub at : place.at ≡ 0

-- at a cursor no more is left than the line has, and the piece before it begins within the line
abbrev pub IsWithinLine : Line → TokenCursor → Type 0
IsWithinLine line place = (length place.rest.now ≤ length line.text) × (place.at ≤ length line.text)

-- the tokens from a cursor in a line up to its first fault, and that fault if there is one
abbrev pub GivesTokensFrom : Bool → Line → TokenCursor → List Placed → Option Fault → Type 0
GivesTokensFrom bang line place ts fault =
    (end : Option Flaw)
    × GivesTokens bang (length line.text) place.before place.at place.rest.now ts end
    × (fault ≡ option_map (fault_at line) end)

-- tokens lead from one cursor to another: the tokens from the second on follow them
abbrev pub LeadsTo : Bool → Line → TokenCursor → List Placed → TokenCursor → Type 0
LeadsTo bang line place ts next =
    (more : List Placed) (fault : Option Fault)
    → GivesTokensFrom bang line next more fault → GivesTokensFrom bang line place (ts ++ more) fault

-- a part of a line: tokens that lead to a later cursor, or all tokens before the first fault or the end
abbrev pub PartOf : Bool → Line → TokenCursor → List Placed → LineRest → Type 0
PartOf bang line place ts (LineRest.More next) =
    LeadsTo bang line place ts next × IsWithinLine line next × (length next.rest.now < length place.rest.now)
PartOf bang line place ts (LineRest.End fault) = GivesTokensFrom bang line place ts fault

-- a part has at most a thousand tokens, and exactly a thousand if more of the line follows
abbrev pub IsFull : List Placed → LineRest → Type 0
IsFull ts (LineRest.More next) = length ts ≡ 1000
IsFull ts (LineRest.End fault) = length ts ≤ 1000
