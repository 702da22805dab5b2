-- The items or faults that the lines of a body give, line by line and token by token in the order of the text. A body
-- without a fault is its items; any other has the first of its faults.
use Rattle.std.specs.Prelude.{codes}
use Prim.Native.Char.{code}
use Rattle.std.specs.Prelude.{◌≡◌, ℕ, ◌+◌, ◌-◌, ◌*◌, ◌==◌, ◌&&◌, not, nat_lt, List, [], ◌∷◌, ◌++◌, Bool, true, false}
use Rattle.std.specs.Prelude.{if◌then◌else◌, map, flat_map, length, take, get_or, Option, Some, None, Result, Ok, Err}
use Rattle.std.specs.Prelude.{⊤, nat_eq}
use Rattle.std.specs.List.{ends_with}
use Rattle.mus_units.specs.declared.note.Head.{Head}
use Rattle.abc_lines.specs.declared.book.Line.{Line}
use Rattle.abc_lines.specs.declared.fault.Fault.{Fault}
use Rattle.abc_lines.specs.declared.fault.FaultKind.{FaultKind}
use Rattle.abc_lines.specs.declared.fault.TuneError.{TuneError}
use Rattle.abc_lines.specs.declared.kind.LineKind.{LineKind}
use Rattle.abc_lines.specs.Kinds.{kind_of}
use Rattle.abc_pieces.specs.declared.token.Token.{Token}
use Rattle.abc_pieces.specs.declared.token.WrittenChord.{WrittenChord}
use Rattle.abc_notes.specs.declared.part.Len.{Len}
use Rattle.abc_music.specs.declared.token.Placed.{Placed}
use Rattle.abc_music.specs.Tokens.{GivesTokensOf}
use Rattle.abc_field.specs.declared.directive.Breaks.{Breaks}
use Rattle.abc_field.specs.declared.field.Field.{Field}
use Rattle.abc_field.specs.Fields.{field_of, named_field}
use Rattle.abc_fields.specs.declared.header.Header.{Header}
use Rattle.abc_fields.specs.Voicing.{with_id}
use Rattle.abc_steps.specs.declared.step.WrittenSound.{WrittenSound}
use Rattle.abc_steps.specs.declared.step.Step.{Step}
use Rattle.abc_steps.specs.declared.step.BodyItem.{BodyItem}
use Rattle.abc_items.specs.Voices.{stood, ids_after_item, declared_ids}

pub data ItemOrFault : Type 0 where
  gives : BodyItem → ItemOrFault
  fails : Fault → ItemOrFault

abbrev pub step_at : Step → ℕ → ℕ → List ItemOrFault
step_at s line column = gives (BodyItem.Step (stood s line column)) ∷ []

-- A field: keys, meters and unit lengths are steps, a voice becomes current, words are kept; every other field adds
-- nothing to a body. A field that is not good is a fault at its place.
abbrev pub field_item : Field → ℕ → ℕ → List ItemOrFault
field_item (Field.Key text) line column = step_at (Step.Key text) line column
field_item (Field.Meter meter) line column = step_at (Step.Meter meter) line column
field_item (Field.Unit unit) line column = step_at (Step.Unit unit) line column
field_item (Field.Voice def) line column = gives (BodyItem.Voice def line column) ∷ []
field_item (Field.Words text) line column = gives (BodyItem.Words text line) ∷ []
field_item _ line column = []

abbrev pub item_of_field : Result Field FaultKind → ℕ → ℕ → List ItemOrFault
item_of_field (Ok field) line column = field_item field line column
item_of_field (Err kind) line column = fails (record { kind = kind; line = line; column = column }) ∷ []

-- a note, a chord, a rest: a chord has the length of its first note, times its own
abbrev pub sound : List Head → Bool → ℕ → ℕ → WrittenSound
sound heads seen num den = record { heads = heads; seen = seen; decos = []; num = num; den = den }

abbrev pub first_len : List (Head × Len) → Len
first_len [] = record { num = 1; den = 1 }
first_len (h ∷ more) = h.1

abbrev pub written_head : Head × Len → Head
written_head h = h.0

abbrev pub chord_sound : WrittenChord → WrittenSound
chord_sound chord =
    let first = first_len chord.heads in
    record {
      heads = map written_head chord.heads;
      seen = true;
      decos = chord.decos;
      num = first.num * chord.len.num;
      den = first.den * chord.len.den;
    }

-- whether the line break that a byte writes, a dollar sign or an exclamation mark, is on
abbrev pub is_on : Breaks → ℕ → Bool
is_on breaks byte = if byte == code "$" then breaks.dollar else breaks.bang

abbrev pub cut_given : Bool → ℕ → ℕ → List ItemOrFault
cut_given true line column = step_at Step.Break line column
cut_given false line column = []

unfoldable pub item_of_token : Breaks → Line → ℕ → Token → List ItemOrFault
item_of_token breaks line column (Token.Note head len) =
    step_at (Step.Sound (sound (head ∷ []) true len.num len.den)) line.number column
item_of_token breaks line column (Token.Rest seen len) =
    step_at (Step.Sound (sound [] seen len.num len.den)) line.number column
item_of_token breaks line column (Token.Measures seen count) = step_at (Step.Measures seen count) line.number column
item_of_token breaks line column (Token.Chord chord) = step_at (Step.Sound (chord_sound chord)) line.number column
item_of_token breaks line column (Token.Grace slash body) = step_at (Step.Grace slash body) line.number column
item_of_token breaks line column (Token.Tuplet p q r) = step_at (Step.Tuplet p q r) line.number column
item_of_token breaks line column Token.SlurOn = step_at Step.SlurOn line.number column
item_of_token breaks line column Token.SlurOff = step_at Step.SlurOff line.number column
item_of_token breaks line column Token.Tie = step_at Step.Tie line.number column
item_of_token breaks line column (Token.Broken right dots) = step_at (Step.Broken right dots) line.number column
item_of_token breaks line column (Token.Bar bar) = step_at (Step.Bar bar) line.number column
item_of_token breaks line column (Token.Ending text) = step_at (Step.Ending text) line.number column
item_of_token breaks line column (Token.Deco deco) = step_at (Step.Deco deco) line.number column
item_of_token breaks line column (Token.Says text) = step_at (Step.Says text) line.number column
item_of_token breaks line column (Token.Inline letter text) = item_of_field (named_field letter text) line.number column
item_of_token breaks line column Token.Cut =
    cut_given (is_on breaks (get_or line.text (column - 1) 0)) line.number column
item_of_token breaks line column Token.Space = step_at Step.Space line.number column

abbrev pub placed_given : Breaks → Line → Placed → List ItemOrFault
placed_given breaks line placed = item_of_token breaks line placed.column placed.token

-- the end of a music line: a backslash there joins the next line to it; otherwise it is a line break if line ends are
abbrev pub is_line_joined : List ℕ → Bool
is_line_joined text = ends_with nat_eq text (codes "\\")

abbrev pub end_item : Breaks → Line → BodyItem
end_item breaks line =
    BodyItem.LineEnd (is_line_joined line.text) (breaks.eol && not (is_line_joined line.text)) line.number
    (length line.text + 1)

abbrev pub item_of_line_end : Breaks → Line → Option Fault → List ItemOrFault
item_of_line_end breaks line None = gives (end_item breaks line) ∷ []
item_of_line_end breaks line (Some fault) = fails fault ∷ []

-- the items or faults of a line: for a field or a directive its item, for music its tokens up to its first fault and
-- then that fault, or its end
abbrev pub MusicGives : Breaks → Line → List ItemOrFault → Type 0
MusicGives breaks line given =
    (tokens : List Placed)
    × (fault : Option Fault)
    × GivesTokensOf breaks.bang line tokens fault
    × (given ≡ flat_map (placed_given breaks line) tokens ++ item_of_line_end breaks line fault)

abbrev pub KindGives : Breaks → Line → LineKind → List ItemOrFault → Type 0
KindGives breaks line LineKind.Music given = MusicGives breaks line given
KindGives breaks line _ given = given ≡ item_of_field (field_of line.text) line.number 1

abbrev pub LineGives : Breaks → Line → List ItemOrFault → Type 0
LineGives breaks line given = KindGives breaks line (kind_of line.text) given

pub data BodyGives (breaks : Breaks) : List Line → List ItemOrFault → Type 0 where
  no_lines : BodyGives breaks [] []
  one_line : (line : Line) (lines : List Line) (first others all : List ItemOrFault)
      → LineGives breaks line first → BodyGives breaks lines others → all ≡ first ++ others
      → BodyGives breaks (line ∷ lines) all

-- a voice field that mentions a seventeenth voice is a fault; `ids` are those mentioned before
abbrev pub voice_judged : Bool → BodyItem → ℕ → ℕ → ItemOrFault
voice_judged true i line column = fails (record { kind = FaultKind.TooManyVoices; line = line; column = column })
voice_judged false i line column = gives i

abbrev pub item_judged : List (List ℕ) → BodyItem → ItemOrFault
item_judged ids (BodyItem.Voice def line column) =
    voice_judged (nat_lt 16 (length (with_id ids def.id))) (BodyItem.Voice def line column) line column
item_judged ids i = gives i

abbrev pub judged_items : List (List ℕ) → List ItemOrFault → List ItemOrFault
judged_items ids [] = []
judged_items ids (fails fault ∷ given) = fails fault ∷ judged_items ids given
judged_items ids (gives i ∷ given) = item_judged ids i ∷ judged_items (ids_after_item ids i) given

abbrev pub first_item_fault : List ItemOrFault → Option Fault
first_item_fault [] = None
first_item_fault (fails fault ∷ given) = Some fault
first_item_fault (gives i ∷ given) = first_item_fault given

abbrev pub items_in : List ItemOrFault → List BodyItem
items_in [] = []
items_in (fails fault ∷ given) = items_in given
items_in (gives i ∷ given) = i ∷ items_in given

-- the items of a body without a fault
pub record IsBody (header : Header) (lines : List Line) (items : List BodyItem) : Type 0 where
  pub given : List ItemOrFault
  pub gives_so : BodyGives header.breaks lines given
  pub clear : first_item_fault (judged_items (declared_ids header) given) ≡ None
  pub are : items ≡ items_in given

-- the first fault of a body: the items or faults of a prefix of its lines have it first
pub record HasFault (header : Header) (lines : List Line) (fault : Fault) : Type 0 where
  pub count : ℕ
  pub given : List ItemOrFault
  pub gives_so : BodyGives header.breaks (take count lines) given
  pub first : first_item_fault (judged_items (declared_ids header) given) ≡ Some fault

-- the result of a body: its items, or its first fault
abbrev pub IsBodyResult : Header → List Line → Result (List BodyItem) Fault → Type 0
IsBodyResult header lines (Ok items) = IsBody header lines items
IsBodyResult header lines (Err fault) = HasFault header lines fault

abbrev pub IsBodyError : Header → List Line → TuneError → Type 0
IsBodyError header lines TuneError.Memory = ⊤
IsBodyError header lines (TuneError.Fault fault) = HasFault header lines fault
