-- The header of a tune: the values of its lines up to the first `K:`, and its first fault.
use Prim.Native.Char.{code}
use Rattle.std.specs.Prelude.{◌≡◌, ℕ, ◌+◌, ◌≤◌, List, [], ◌∷◌, Bool, nat_lt, if◌then◌else◌, length, take, position}
use Rattle.std.specs.Prelude.{Option, Some, None, Result, Ok, Err, is_some, unwrap_or, ⊤, count_by}
use Rattle.std.specs.List.{filter_map}
use Rattle.std.specs.Option.{option_map, option_or}
use Rattle.std.specs.Str.{bytes_eq}
use Rattle.mus_units.specs.declared.pitch.Clef.{Clef}
use Rattle.mus_units.specs.declared.key.Meter.{Meter}
use Rattle.mus_units.specs.declared.key.Sign.{Sign}
use Rattle.mus_units.specs.declared.key.Spread.{Spread}
use Rattle.mus_units.specs.declared.value.Frac.{Frac}
use Rattle.mus_units.specs.Good.{IsGoodKey, IsGoodMeter, IsGoodUnit}
use Rattle.abc_lines.specs.declared.book.Line.{Line}
use Rattle.abc_lines.specs.declared.book.TuneText.{TuneText}
use Rattle.abc_lines.specs.declared.fault.FaultKind.{FaultKind}
use Rattle.abc_lines.specs.declared.fault.Fault.{Fault}
use Rattle.abc_lines.specs.declared.fault.TuneError.{TuneError}
use Rattle.abc_fields.specs.declared.defaults.Defaults.{Defaults}
use Rattle.abc_fields.specs.declared.header.Header.{Header}
use Rattle.abc_fields.specs.Defaults.{line_of, line_staves, text_of}
use Rattle.abc_fields.specs.Voicing.{ids_after, voices_of}
use Rattle.abc_field.specs.declared.directive.Breaks.{Breaks}
use Rattle.abc_field.specs.declared.key.KeyText.{KeyText}
use Rattle.abc_field.specs.declared.voice.VoiceDef.{VoiceDef}
use Rattle.abc_field.specs.declared.field.Field.{Field}
use Rattle.abc_field.specs.Fields.{field_of, IsGoodField}
use Rattle.abc_field.specs.Keys.{key_over}
use Rattle.abc_field.specs.Last.{last_of}
use Rattle.abc_field.specs.Meters.{default_unit}

-- the index of the first `K:`
abbrev pub is_key_line : Line → Bool
is_key_line line = is_some (text_of (code "K") line.text)

abbrev pub key_place : List Line → Option ℕ
key_place lines = position is_key_line lines

-- The values of each kind of field.
abbrev pub title_in : Field → Option (List ℕ)
title_in (Field.Title text) = Some text
title_in _ = None

abbrev pub composer_in : Field → Option (List ℕ)
composer_in (Field.Composer text) = Some text
composer_in _ = None

abbrev pub tempo_in : Field → Option (List ℕ)
tempo_in (Field.Tempo text) = Some text
tempo_in _ = None

abbrev pub key_in : Field → Option KeyText
key_in (Field.Key key) = Some key
key_in _ = None

abbrev pub meter_in : Field → Option Meter
meter_in (Field.Meter meter) = Some meter
meter_in _ = None

abbrev pub unit_in : Field → Option Frac
unit_in (Field.Unit unit) = Some unit
unit_in _ = None

abbrev pub breaks_in : Field → Option Breaks
breaks_in (Field.Breaks breaks) = Some breaks
breaks_in _ = None

abbrev pub spread_in : Field → Option Spread
spread_in (Field.Spread spread) = Some spread
spread_in _ = None

-- the header's key is applied to no accidentals, and its clef is treble if none is named
abbrev pub key_signs : Option KeyText → List Sign
key_signs None = []
key_signs (Some key) = key_over [] key

abbrev pub key_clef : Option KeyText → Clef
key_clef None = Clef.Treble
key_clef (Some key) = unwrap_or key.clef Clef.Treble

-- the tune's last unit, or else the file's, or else the one for the tune's meter
abbrev pub unit_by : Option Frac → Option Frac → Meter → Frac
unit_by (Some unit) other meter = unit
unit_by None (Some unit) meter = unit
unit_by None None meter = default_unit meter

abbrev pub meter_from : List Field → Defaults → Meter
meter_from fs defaults = unwrap_or (last_of meter_in fs) defaults.meter

-- the tune's last `%%score`, or else the file's, placed at the tune's first line
abbrev pub staves_by : Option Line → Option Line → ℕ → Option Line
staves_by own other first = option_or own (option_map (λ (line : Line). line_of first line.text) other)

abbrev pub staves_from : List Line → Defaults → ℕ → Option Line
staves_from lines defaults first = staves_by (last_of line_staves lines) defaults.staves first

-- the last value of each kind counts, and every title and composer
abbrev pub header_of : List Field → Defaults → Option Line → ℕ → Header
header_of fs defaults staves body = record {
  titles = filter_map title_in fs;
  composers = filter_map composer_in fs;
  tempo = last_of tempo_in fs;
  key = record { signs = key_signs (last_of key_in fs) };
  clef = key_clef (last_of key_in fs);
  meter = meter_from fs defaults;
  unit = unit_by (last_of unit_in fs) defaults.unit (meter_from fs defaults);
  voices = voices_of fs;
  breaks = unwrap_or (last_of breaks_in fs) defaults.breaks;
  spread = unwrap_or (last_of spread_in fs) defaults.spread;
  staves = staves;
  body = body;
}

-- the fields of lines that have no fault
abbrev pub put_field : Result Field FaultKind → List Field → List Field
put_field (Ok f) fs = f ∷ fs
put_field (Err kind) fs = fs

abbrev pub fields_of : List Line → List Field
fields_of [] = []
fields_of (line ∷ lines) = put_field (field_of line.text) (fields_of lines)

-- Faults. A line is at fault if its field is, or if it mentions a seventeenth voice.
abbrev pub line_fault : FaultKind → Line → Fault
line_fault kind line = record { kind = kind; line = line.number; column = 1 }

abbrev pub field_fault : List (List ℕ) → Line → Result Field FaultKind → Option Fault
field_fault ids line (Err kind) = Some (line_fault kind line)
field_fault ids line (Ok f) =
    if nat_lt 16 (length (ids_after ids f)) then Some (line_fault FaultKind.TooManyVoices line) else None

abbrev pub ids_with : List (List ℕ) → Result Field FaultKind → List (List ℕ)
ids_with ids (Ok f) = ids_after ids f
ids_with ids (Err kind) = ids

-- the fault of the first line that has one, if those ids were mentioned before
abbrev pub first_fault : List (List ℕ) → List Line → Option Fault
first_fault ids [] = None
first_fault ids (line ∷ lines) =
    option_or (field_fault ids line (field_of line.text)) (first_fault (ids_with ids (field_of line.text)) lines)

-- the lines of the header, including the first `K:`
abbrev pub head_lines : TuneText → ℕ → List Line
head_lines tune place = take (place + 1) tune.lines

abbrev pub first_line_number : List Line → ℕ
first_line_number [] = 0
first_line_number (line ∷ lines) = line.number

abbrev pub no_key : TuneText → Fault
no_key tune = record { kind = FaultKind.NoKey; line = first_line_number tune.lines; column = 1 }

-- the header's fault, if any: without a `K:` it is at the `X:`, or else it is the first fault of its lines
abbrev pub fault_by : TuneText → Option ℕ → Option Fault
fault_by tune None = Some (no_key tune)
fault_by tune (Some place) = first_fault [] (head_lines tune place)

unfoldable pub header_fault : TuneText → Option Fault
header_fault tune = fault_by tune (key_place tune.lines)

abbrev pub IsHeaderBy : TuneText → Defaults → Header → Option ℕ → Type 0
IsHeaderBy tune defaults header None = ⊥
IsHeaderBy tune defaults header (Some place) =
    header
    ≡ header_of (fields_of (head_lines tune place)) defaults
    (staves_from (head_lines tune place) defaults (first_line_number tune.lines)) (place + 1)

-- the header of a tune that has a `K:`
unfoldable pub IsHeaderOf : TuneText → Defaults → Header → Type 0
IsHeaderOf tune defaults header = IsHeaderBy tune defaults header (key_place tune.lines)

abbrev pub IsHeaderFault : TuneText → TuneError → Type 0
IsHeaderFault tune TuneError.Memory = ⊤
IsHeaderFault tune (TuneError.Fault fault) = header_fault tune ≡ Some fault

-- the result of a header: its values if it has no fault, or its first fault
abbrev pub IsHeaderResult : TuneText → Defaults → Result Header Fault → Type 0
IsHeaderResult tune defaults (Ok header) = IsHeaderOf tune defaults header × (header_fault tune ≡ None)
IsHeaderResult tune defaults (Err fault) = header_fault tune ≡ Some fault

-- each of a list
abbrev pub AreGoodFields : List Field → Type 0
AreGoodFields [] = ⊤
AreGoodFields (f ∷ fs) = IsGoodField f × AreGoodFields fs

-- no two voices have the same id
abbrev pub AreDistinct : List VoiceDef → Type 0
AreDistinct defs = (id : List ℕ) → count_by (λ (def : VoiceDef). bytes_eq id def.id) defs ≤ 1

-- good values, and at most 16 voices with distinct ids
pub record HasGoodValues (header : Header) : Type 0 where
  pub key : IsGoodKey header.key
  pub meter : IsGoodMeter header.meter
  pub unit : IsGoodUnit header.unit
  pub few : length header.voices ≤ 16
  pub distinct : AreDistinct header.voices

-- the body begins within the tune, or at its end
abbrev pub IsGoodHeader : TuneText → Header → Type 0
IsGoodHeader tune header = HasGoodValues header × (header.body ≤ length tune.lines)
