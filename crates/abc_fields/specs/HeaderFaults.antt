-- When a line of a header is at fault, given the lines before it, and which fault is the first.
use Rattle.std.specs.Prelude.{◌≡◌, ◌<◌, ◌⊎◌, ℕ, List, [], ◌∷◌, ◌++◌, length, ⊤, Option, Some, None}
use Rattle.abc_lines.specs.declared.book.Line.{Line}
use Rattle.abc_lines.specs.declared.book.TuneText.{TuneText}
use Rattle.abc_lines.specs.declared.fault.FaultKind.{FaultKind}
use Rattle.abc_lines.specs.declared.fault.Fault.{Fault}
use Rattle.abc_lines.specs.declared.fault.TuneError.{TuneError}
use Rattle.abc_field.specs.declared.field.Field.{Field}
use Rattle.abc_field.specs.FieldSpelling.{Says, IsBad}
use Rattle.abc_fields.specs.Headers.{key_place, fields_of, line_fault, head_lines, no_key}
use Rattle.abc_fields.specs.Voicing.{ids_of}

-- the text of the line has no good form for its letter
pub record HasBadText (line : Line) (fault : Fault) : Type 0 where
  pub kind : FaultKind
  pub bad : IsBad line.text kind
  pub is : line_fault kind line ≡ fault

-- the line is a field with which more than 16 voices are mentioned
pub record HasVoiceTooMany (before : List Line) (line : Line) (fault : Fault) : Type 0 where
  pub field : Field
  pub says : Says line.text field
  pub many : 16 < length (ids_of (fields_of before ++ field ∷ []))
  pub is : line_fault FaultKind.TooManyVoices line ≡ fault

-- the fault of a line that follows these lines
abbrev pub IsFaultAfter : List Line → Line → Fault → Type 0
IsFaultAfter before line fault = HasBadText line fault ⊎ HasVoiceTooMany before line fault

-- no line is at fault after those before it
abbrev pub AreClear : List Line → Type 0
AreClear lines =
    (before : List Line) (line : Line) (after : List Line) (fault : Fault)
    → lines ≡ before ++ line ∷ after → IsFaultAfter before line fault → ⊥

-- the first fault: its line is at fault after those before it, and none of these is
pub record IsFirstFault (lines : List Line) (fault : Fault) : Type 0 where
  pub before : List Line
  pub line : Line
  pub after : List Line
  pub cut : lines ≡ before ++ line ∷ after
  pub is : IsFaultAfter before line fault
  pub clear : AreClear before

-- the fault of a tune's header: without `K:` at the tune's first line, or else the first fault of the lines up to the
-- first `K:`
abbrev pub IsFaultBy : TuneText → Option ℕ → Fault → Type 0
IsFaultBy tune None fault = no_key tune ≡ fault
IsFaultBy tune (Some place) fault = IsFirstFault (head_lines tune place) fault

abbrev pub IsFaultOfHeader : TuneText → Fault → Type 0
IsFaultOfHeader tune fault = IsFaultBy tune (key_place tune.lines) fault

-- the header has no fault: there is a `K:`, and no line up to the first is at fault
abbrev pub IsClearBy : TuneText → Option ℕ → Type 0
IsClearBy tune None = ⊥
IsClearBy tune (Some place) = AreClear (head_lines tune place)

abbrev pub IsClearHeader : TuneText → Type 0
IsClearHeader tune = IsClearBy tune (key_place tune.lines)

-- why there is no header: its fault, or out of memory
abbrev pub IsHeaderRefusal : TuneText → TuneError → Type 0
IsHeaderRefusal tune TuneError.Memory = ⊤
IsHeaderRefusal tune (TuneError.Fault fault) = IsFaultOfHeader tune fault
