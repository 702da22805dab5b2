-- What a line says, one case per kind of field: its letter or its directive, and how its text is written. If a text
-- with the letter of a key, a meter, a unit length or a voice is in no good form of that letter, the line is a fault.
use Prim.Native.Char.{code}
use Rattle.std.specs.Prelude.{◌≡◌, ℕ, List, Bool, ⊤, ◌==◌, ◌||◌, IsTrue, not, codes}
use Rattle.mus_units.specs.{declared.key.Meter.Meter, declared.key.Spread.Spread, declared.value.Frac.Frac}
use Rattle.abc_lines.specs.declared.book.Line.{Line}
use Rattle.abc_lines.specs.declared.fault.FaultKind.{FaultKind}
use Rattle.abc_lines.specs.declared.fault.TuneError.{TuneError}
use Rattle.abc_lines.specs.declared.kind.LineKind.{LineKind}
use Rattle.abc_lines.specs.Kinds.{kind_of, field_text}
use Rattle.abc_field.specs.declared.directive.Breaks.{Breaks}
use Rattle.abc_field.specs.declared.key.KeyText.{KeyText}
use Rattle.abc_field.specs.declared.voice.VoiceDef.{VoiceDef}
use Rattle.abc_field.specs.declared.field.Field.{Field}
use Rattle.abc_field.specs.declared.field.FieldError.{FieldError}
use Rattle.abc_field.specs.Directives.{name_of, rest_of, has_word, names_breaks}
use Rattle.abc_field.specs.KeySpelling.{SaysKey}
use Rattle.abc_field.specs.MeterSpelling.{SaysMeter, SaysUnit}
use Rattle.abc_field.specs.VoiceSpelling.{SaysVoice}

-- Line breaks: at least one of the four words is among the words of the text, and each of the three breaks is on
-- exactly when its word is there; `<none>` adds none, and other words are ignored.
pub record SaysBreaks (text : List ℕ) (breaks : Breaks) : Type 0 where
  pub some : IsTrue (names_breaks text)
  pub eol : breaks.eol ≡ has_word text (codes "<EOL>")
  pub dollar : breaks.dollar ≡ has_word text (codes "$")
  pub bang : breaks.bang ≡ has_word text (codes "!")

-- how far accidentals reach, by name
abbrev pub SaysSpread : List ℕ → Spread → Type 0
SaysSpread text Spread.Not = text ≡ codes "not"
SaysSpread text Spread.Octave = text ≡ codes "octave"
SaysSpread text Spread.Pitch = text ≡ codes "pitch"

-- the letters of the fields that say something: K, M, L, V, w, T, C, Q
abbrev pub is_known : ℕ → Bool
is_known letter =
    (letter == code "K" || letter == code "M")
    || (letter == code "L" || letter == code "V")
    || ((letter == code "w" || letter == code "T") || (letter == code "C" || letter == code "Q"))

-- What a field of that letter and text says. K:, M:, L: and V: are read; w:, T:, C: and Q: are kept as written; a
-- field of another letter says nothing here.
abbrev pub NamedSays : ℕ → List ℕ → Field → Type 0
NamedSays letter text (Field.Key key) = (letter ≡ code "K") × SaysKey text key
NamedSays letter text (Field.Meter meter) = (letter ≡ code "M") × SaysMeter text meter
NamedSays letter text (Field.Unit unit) = (letter ≡ code "L") × SaysUnit text unit
NamedSays letter text (Field.Voice voice) = (letter ≡ code "V") × SaysVoice text voice
NamedSays letter text (Field.Words words) = (letter ≡ code "w") × (words ≡ text)
NamedSays letter text (Field.Title title) = (letter ≡ code "T") × (title ≡ text)
NamedSays letter text (Field.Composer composer) = (letter ≡ code "C") × (composer ≡ text)
NamedSays letter text (Field.Tempo tempo) = (letter ≡ code "Q") × (tempo ≡ text)
NamedSays letter text (Field.Breaks breaks) = ⊥
NamedSays letter text (Field.Spread spread) = ⊥
NamedSays letter text Field.Other = IsTrue (not (is_known letter))

abbrev pub DirectiveBreaks : List ℕ → List ℕ → Breaks → Type 0
DirectiveBreaks name rest breaks = (name ≡ codes "linebreak") × SaysBreaks rest breaks

abbrev pub DirectiveSpread : List ℕ → List ℕ → Spread → Type 0
DirectiveSpread name rest spread = (name ≡ codes "propagate-accidentals") × SaysSpread rest spread

-- What a directive of that name says with the text after its name. One of another name or in another form says
-- nothing.
abbrev pub DirectiveSays : List ℕ → List ℕ → Field → Type 0
DirectiveSays name rest (Field.Breaks breaks) = DirectiveBreaks name rest breaks
DirectiveSays name rest (Field.Spread spread) = DirectiveSpread name rest spread
DirectiveSays name rest Field.Other =
    ((breaks : Breaks) → DirectiveBreaks name rest breaks → ⊥)
    × ((spread : Spread) → DirectiveSpread name rest spread → ⊥)
DirectiveSays name rest _ = ⊥

-- what a line of that kind says; a music line says nothing here
abbrev pub KindSays : List ℕ → LineKind → Field → Type 0
KindSays text (LineKind.Field letter) field = NamedSays letter (field_text text) field
KindSays text LineKind.Directive field = DirectiveSays (name_of (field_text text)) (rest_of (field_text text)) field
KindSays text LineKind.Music field = field ≡ Field.Other

-- the line says the field
abbrev pub Says : List ℕ → Field → Type 0
Says line field = KindSays line (kind_of line) field

-- The text of that letter is in no good form of it, and so is this fault.
abbrev pub NamedBad : ℕ → List ℕ → FaultKind → Type 0
NamedBad letter text FaultKind.BadKey = (letter ≡ code "K") × ((key : KeyText) → SaysKey text key → ⊥)
NamedBad letter text FaultKind.BadMeter = (letter ≡ code "M") × ((meter : Meter) → SaysMeter text meter → ⊥)
NamedBad letter text FaultKind.BadUnit = (letter ≡ code "L") × ((unit : Frac) → SaysUnit text unit → ⊥)
NamedBad letter text FaultKind.BadVoice = (letter ≡ code "V") × ((voice : VoiceDef) → SaysVoice text voice → ⊥)
NamedBad letter text _ = ⊥

abbrev pub KindBad : List ℕ → LineKind → FaultKind → Type 0
KindBad text (LineKind.Field letter) kind = NamedBad letter (field_text text) kind
KindBad text _ kind = ⊥

-- the line says nothing and is this fault
abbrev pub IsBad : List ℕ → FaultKind → Type 0
IsBad line kind = KindBad line (kind_of line) kind

-- why a letter and a text say nothing: their fault, or out of memory
abbrev pub NamedRefuses : ℕ → List ℕ → FieldError → Type 0
NamedRefuses letter text FieldError.Memory = ⊤
NamedRefuses letter text (FieldError.Fault kind) = NamedBad letter text kind

-- why a line says nothing: its fault, which is at its column 1, or out of memory
abbrev pub IsBadLine : Line → TuneError → Type 0
IsBadLine line TuneError.Memory = ⊤
IsBadLine line (TuneError.Fault fault) = IsBad line.text fault.kind × (fault.line ≡ line.number) × (fault.column ≡ 1)
