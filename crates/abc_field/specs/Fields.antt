-- What a line says: its field, or its fault. This is the function that the code follows; FieldSpelling has the
-- intended relation.
use Prim.Native.Char.{code}
use Rattle.std.specs.Prelude.{◌≡◌, ℕ, List, ◌==◌, if◌then◌else◌, codes, Option, Some, None, Result, Ok, Err, ⊤}
use Rattle.std.specs.Str.{bytes_eq}
use Rattle.mus_units.specs.declared.key.Meter.{Meter}
use Rattle.mus_units.specs.declared.key.Spread.{Spread}
use Rattle.mus_units.specs.declared.value.Frac.{Frac}
use Rattle.mus_units.specs.Good.{IsGoodMeter, IsGoodUnit}
use Rattle.abc_lines.specs.declared.book.Line.{Line}
use Rattle.abc_lines.specs.declared.fault.FaultKind.{FaultKind}
use Rattle.abc_lines.specs.declared.fault.TuneError.{TuneError}
use Rattle.abc_lines.specs.declared.kind.LineKind.{LineKind}
use Rattle.abc_lines.specs.Kinds.{kind_of, field_text}
use Rattle.abc_field.specs.declared.directive.Breaks.{Breaks}
use Rattle.abc_field.specs.declared.key.KeyText.{KeyText}
use Rattle.abc_field.specs.declared.voice.VoiceDef.{VoiceDef}
use Rattle.abc_field.specs.declared.field.Field.{Field}
use Rattle.abc_field.specs.declared.field.FieldError.{FieldError}
use Rattle.abc_field.specs.Directives.{name_of, rest_of, breaks_of, spread_of}
use Rattle.abc_field.specs.Keys.{key_of, IsGoodKeyText}
use Rattle.abc_field.specs.Meters.{meter_of, unit_of}
use Rattle.abc_field.specs.Voices.{voice_of}

abbrev pub key_field : Option KeyText → Result Field FaultKind
key_field (Some key) = Ok (Field.Key key)
key_field None = Err FaultKind.BadKey

abbrev pub meter_field : Option Meter → Result Field FaultKind
meter_field (Some meter) = Ok (Field.Meter meter)
meter_field None = Err FaultKind.BadMeter

abbrev pub unit_field : Option Frac → Result Field FaultKind
unit_field (Some unit) = Ok (Field.Unit unit)
unit_field None = Err FaultKind.BadUnit

abbrev pub voice_field : Option VoiceDef → Result Field FaultKind
voice_field (Some voice) = Ok (Field.Voice voice)
voice_field None = Err FaultKind.BadVoice

-- w:, T:, C: and Q: as written; other letters say nothing
abbrev pub written_field : ℕ → List ℕ → Field
written_field letter text =
    if letter == code "w" then Field.Words text
    else (if letter == code "T" then Field.Title text
    else (if letter == code "C" then Field.Composer text
    else (if letter == code "Q" then Field.Tempo text else Field.Other)))

-- K:, M:, L: and V: are read
unfoldable pub named_field : ℕ → List ℕ → Result Field FaultKind
named_field letter text =
    if letter == code "K" then key_field (key_of text)
    else (if letter == code "M" then meter_field (meter_of text)
    else (if letter == code "L" then unit_field (unit_of text)
    else (if letter == code "V" then voice_field (voice_of text) else Ok (written_field letter text))))

abbrev pub breaks_field : Option Breaks → Field
breaks_field (Some breaks) = Field.Breaks breaks
breaks_field None = Field.Other

abbrev pub spread_field : Option Spread → Field
spread_field (Some spread) = Field.Spread spread
spread_field None = Field.Other

-- a directive in another form says nothing
unfoldable pub directive_field : List ℕ → List ℕ → Field
directive_field name rest =
    if bytes_eq name (codes "linebreak") then breaks_field (breaks_of rest)
    else (if bytes_eq name (codes "propagate-accidentals") then spread_field (spread_of rest) else Field.Other)

abbrev pub field_by : List ℕ → LineKind → Result Field FaultKind
field_by text (LineKind.Field letter) = named_field letter (field_text text)
field_by text LineKind.Directive = Ok (directive_field (name_of (field_text text)) (rest_of (field_text text)))
field_by text LineKind.Music = Ok Field.Other

unfoldable pub field_of : List ℕ → Result Field FaultKind
field_of text = field_by text (kind_of text)

-- a good field has good values
abbrev pub IsGoodField : Field → Type 0
IsGoodField (Field.Key key) = IsGoodKeyText key
IsGoodField (Field.Meter meter) = IsGoodMeter meter
IsGoodField (Field.Unit unit) = IsGoodUnit unit
IsGoodField _ = ⊤

-- why there is no field: the fault, or out of memory
abbrev pub IsErrorOfField : Result Field FaultKind → FieldError → Type 0
IsErrorOfField read FieldError.Memory = ⊤
IsErrorOfField read (FieldError.Fault kind) = read ≡ Err kind

-- the fault of a line is at its column 1
abbrev pub IsFaultOfLine : Line → TuneError → Type 0
IsFaultOfLine line TuneError.Memory = ⊤
IsFaultOfLine line (TuneError.Fault fault) =
    (field_of line.text ≡ Err fault.kind) × (fault.line ≡ line.number) × (fault.column ≡ 1)
