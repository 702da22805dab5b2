-- The file header's settings for every tune: the last good value of each kind counts.
use Prim.Native.Char.{code}
use Rattle.std.specs.Prelude.{ℕ, List, true, false, ◌==◌, if◌then◌else◌, codes, Option, Some, None, unwrap_or}
use Rattle.std.specs.Option.{option_and_then, option_map}
use Rattle.std.specs.Str.{bytes_eq}
use Rattle.mus_units.specs.declared.key.Meter.{Meter}
use Rattle.mus_units.specs.declared.key.Spread.{Spread}
use Rattle.mus_units.specs.declared.value.Frac.{Frac}
use Rattle.abc_lines.specs.declared.book.Line.{Line}
use Rattle.abc_lines.specs.declared.kind.LineKind.{LineKind}
use Rattle.abc_lines.specs.Kinds.{kind_of, field_text}
use Rattle.abc_field.specs.declared.directive.Breaks.{Breaks}
use Rattle.abc_field.specs.Directives.{name_of, rest_of, breaks_of, spread_of}
use Rattle.abc_field.specs.Last.{last_of}
use Rattle.abc_field.specs.Meters.{meter_of, unit_of}
use Rattle.abc_fields.specs.declared.defaults.Defaults.{Defaults}

-- the text of a field, if the line is one with that letter
abbrev pub text_if : ℕ → List ℕ → LineKind → Option (List ℕ)
text_if letter text (LineKind.Field other) = if other == letter then Some (field_text text) else None
text_if letter text _ = None

unfoldable pub text_of : ℕ → List ℕ → Option (List ℕ)
text_of letter text = text_if letter text (kind_of text)

-- the text of a directive, if the line is one with that name
abbrev pub rest_named : List ℕ → List ℕ → Option (List ℕ)
rest_named name text = if bytes_eq (name_of text) name then Some (rest_of text) else None

abbrev pub rest_if : List ℕ → List ℕ → LineKind → Option (List ℕ)
rest_if name text LineKind.Directive = rest_named name (field_text text)
rest_if name text _ = None

unfoldable pub said_by : List ℕ → List ℕ → Option (List ℕ)
said_by name text = rest_if name text (kind_of text)

unfoldable pub line_meter : Line → Option Meter
line_meter line = option_and_then meter_of (text_of (code "M") line.text)

unfoldable pub line_unit : Line → Option Frac
line_unit line = option_and_then unit_of (text_of (code "L") line.text)

unfoldable pub line_breaks : Line → Option Breaks
line_breaks line = option_and_then breaks_of (said_by (codes "linebreak") line.text)

unfoldable pub line_spread : Line → Option Spread
line_spread line = option_and_then spread_of (said_by (codes "propagate-accidentals") line.text)

abbrev pub line_of : ℕ → List ℕ → Line
line_of number text = record { number = number; text = text }

-- the text of a `%%score` line, with its number
unfoldable pub line_staves : Line → Option Line
line_staves line = option_map (line_of line.number) (said_by (codes "score") line.text)

-- the default: line ends and `$` break lines
abbrev pub default_breaks : Breaks
default_breaks = record { eol = true; dollar = true; bang = false }

abbrev pub defaults_of : List Line → Defaults
defaults_of lines = record {
  meter = unwrap_or (last_of line_meter lines) Meter.Free;
  unit = last_of line_unit lines;
  breaks = unwrap_or (last_of line_breaks lines) default_breaks;
  spread = unwrap_or (last_of line_spread lines) Spread.Pitch;
  staves = last_of line_staves lines;
}
