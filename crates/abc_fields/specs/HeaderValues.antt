-- The values of a tune's header: of each kind the last line up to the first `K:` that says one counts; every title and
-- every composer counts, in order.
use Rattle.std.specs.Prelude.{◌≡◌, ◌+◌, ℕ, List, [], ◌∷◌, Option, Some, None, fold, is_some, map, unwrap_or}
use Rattle.std.specs.List.{AllByRecursion}
use Rattle.abc_lines.specs.declared.book.Line.{Line}
use Rattle.abc_lines.specs.declared.book.TuneText.{TuneText}
use Rattle.abc_field.specs.declared.field.Field.{Field}
use Rattle.abc_field.specs.declared.key.KeyText.{KeyText}
use Rattle.abc_field.specs.declared.voice.VoiceDef.{VoiceDef}
use Rattle.abc_field.specs.FieldSpelling.{Says}
use Rattle.mus_units.specs.declared.note.Wish.{Wish}
use Rattle.mus_units.specs.declared.value.Frac.{Frac}
use Rattle.abc_fields.specs.declared.defaults.Defaults.{Defaults}
use Rattle.abc_fields.specs.declared.header.Header.{Header}
use Rattle.abc_fields.specs.FileHeader.{AreStavesOf, IsLastOr, IsLastIfAny}
use Rattle.abc_fields.specs.Headers.{title_in, composer_in, tempo_in, key_in, meter_in, unit_in, breaks_in, spread_in}
use Rattle.abc_fields.specs.Headers.{key_signs, key_clef, unit_by, head_lines, key_place}
use Rattle.abc_fields.specs.Voicing.{clef_for, id_in, wish_for, with_id}

-- the line says a field that has this value
abbrev pub SaysValue : {X : Type 0} → (Field → Option X) → Line → X → Type 0
SaysValue value line x = (field : Field) × Says line.text field × (value field ≡ Some x)

-- the values that the lines say, in order
pub data AreAllSaid {X : Type 0} (value : Field → Option X) : List Line → List X → Type 0 where
  no_more : AreAllSaid value [] []
  one_said : (line : Line) (lines : List Line) (x : X) (others : List X)
      → SaysValue value line x → AreAllSaid value lines others → AreAllSaid value (line ∷ lines) (x ∷ others)
  none_said : (line : Line) (lines : List Line) (others : List X)
      → ((x : X) → SaysValue value line x → ⊥) → AreAllSaid value lines others → AreAllSaid value (line ∷ lines) others

-- Each value is the last one said, or else the file's. Without a key the signs are none and the clef is treble; a unit
-- that neither the tune nor the file says follows from the meter.
pub record AreValuesBy (lines : List Line) (defaults : Defaults) (header : Header) : Type 0 where
  pub titles : AreAllSaid title_in lines header.titles
  pub composers : AreAllSaid composer_in lines header.composers
  pub tempo : IsLastIfAny (SaysValue tempo_in) lines header.tempo
  pub key : Option KeyText
  pub key_said : IsLastIfAny (SaysValue key_in) lines key
  pub signs : header.key.signs ≡ key_signs key
  pub clef : header.clef ≡ key_clef key
  pub meter : IsLastOr (SaysValue meter_in) defaults.meter lines header.meter
  pub unit : Option Frac
  pub unit_said : IsLastIfAny (SaysValue unit_in) lines unit
  pub unit_is : header.unit ≡ unit_by unit defaults.unit header.meter
  pub breaks : IsLastOr (SaysValue breaks_in) defaults.breaks lines header.breaks
  pub spread : IsLastOr (SaysValue spread_in) defaults.spread lines header.spread

abbrev pub AreValuesUpTo : TuneText → Defaults → Option ℕ → Header → Type 0
AreValuesUpTo tune defaults None header = ⊥
AreValuesUpTo tune defaults (Some place) header = AreValuesBy (head_lines tune place) defaults header

-- What the lines say of a voice: its last clef and its last stem direction, which is Auto if no line names one.
pub record IsVoiceBy (lines : List Line) (voice : VoiceDef) : Type 0 where
  pub clef : IsLastIfAny (SaysValue (clef_for voice.id)) lines voice.clef
  pub stem : Option Wish
  pub stem_said : IsLastIfAny (SaysValue (wish_for voice.id)) lines stem
  pub stem_is : voice.stem ≡ unwrap_or stem Wish.Auto
  pub asks : voice.asks ≡ is_some stem

-- The voices that the lines name, each once, in order of first mention.
pub record AreVoicesBy (lines : List Line) (voices : List VoiceDef) : Type 0 where
  pub named : List (List ℕ)
  pub all_named : AreAllSaid id_in lines named
  pub ids : map (λ (voice : VoiceDef). voice.id) voices ≡ fold with_id [] named
  pub each : AllByRecursion (IsVoiceBy lines) voices

-- the values of a tune that has a `K:`
abbrev pub AreValuesOf : TuneText → Defaults → Header → Type 0
AreValuesOf tune defaults header = AreValuesUpTo tune defaults (key_place tune.lines) header

-- the voices of a header are those that its lines up to the first `K:` name, and its body follows them
abbrev pub HasVoicesUpTo : TuneText → Option ℕ → Header → Type 0
HasVoicesUpTo tune None header = ⊥
HasVoicesUpTo tune (Some place) header =
    AreVoicesBy (head_lines tune place) header.voices × (header.body ≡ place + 1)

-- each value of a header is the last that a line up to the first `K:` says, or, if no line says one, its default
pub record SaysHeader (tune : TuneText) (defaults : Defaults) (header : Header) : Type 0 where
  pub values : AreValuesOf tune defaults header
  pub staves : AreStavesOf tune defaults header.staves
  pub voices : HasVoicesUpTo tune (key_place tune.lines) header
