-- The voices of a tune: which ones there are, in order of first mention; what each begins with; and which steps of
-- the body belong to it.
use Rattle.std.specs.Prelude.{codes}
use Rattle.std.specs.Prelude.{ℕ, List, [], ◌∷◌, ◌++◌, ◌==◌, ◌&&◌, not, Bool, true, false, if◌then◌else◌, map, fold}
use Rattle.std.specs.Prelude.{find, length, Option, Some, None, unwrap_or}
use Rattle.std.specs.Str.{bytes_eq}
use Rattle.mus_units.specs.declared.pitch.Clef.{Clef}
use Rattle.mus_units.specs.declared.note.Wish.{Wish}
use Rattle.abc_field.specs.declared.voice.VoiceDef.{VoiceDef}
use Rattle.abc_field.specs.Last.{last_of}
use Rattle.abc_fields.specs.declared.header.Header.{Header}
use Rattle.abc_fields.specs.Voicing.{with_id}
use Rattle.abc_steps.specs.declared.step.Step.{Step}
use Rattle.abc_steps.specs.declared.step.PlacedStep.{PlacedStep}
use Rattle.abc_steps.specs.declared.step.BodyItem.{BodyItem}
use Rattle.abc_items.specs.declared.voices.VoiceStart.{VoiceStart}

-- whether a step establishes its voice, and its line as a line of that voice: spaces, line breaks, line ends and
-- fields do not
unfoldable pub claims : Step → Bool
claims Step.Space = false
claims Step.Break = false
claims Step.LineEnd = false
claims (Step.Key text) = false
claims (Step.Meter meter) = false
claims (Step.Unit unit) = false
claims (Step.Clef clef) = false
claims _ = true

-- the id of the voice for music without any voice
abbrev pub voice_one : List ℕ
voice_one = codes "1"

-- The ids that are mentioned, each once, in order of first mention: a voice field mentions its id, and a step that
-- claims its voice mentions the voice 1 if no other was mentioned.
abbrev pub ids_by_step : List (List ℕ) → Bool → List (List ℕ)
ids_by_step [] true = voice_one ∷ []
ids_by_step [] false = []
ids_by_step (id ∷ ids) b = id ∷ ids

abbrev pub ids_after_item : List (List ℕ) → BodyItem → List (List ℕ)
ids_after_item ids (BodyItem.Step s) = ids_by_step ids (claims s.step)
ids_after_item ids (BodyItem.LineEnd joined breaks line column) = ids
ids_after_item ids (BodyItem.Voice def line column) = with_id ids def.id
ids_after_item ids (BodyItem.Words text line) = ids

abbrev pub declared_ids : Header → List (List ℕ)
declared_ids header = map (λ (def : VoiceDef). def.id) header.voices

abbrev pub voice_ids : Header → List BodyItem → List (List ℕ)
voice_ids header items = fold ids_after_item (declared_ids header) items

-- the voice of music before any voice field: the first declared voice, or else the voice 1
abbrev pub first_id : List VoiceDef → List ℕ
first_id [] = voice_one
first_id (def ∷ defs) = def.id

abbrev pub unnamed_of : Header → List ℕ
unnamed_of header = first_id header.voices

-- A voice begins with the clef of its declaration, or else with that of the voice field that mentions it first, or
-- else, also if music mentions it first, with the header's.
abbrev pub declared : Header → List ℕ → Option VoiceDef
declared header id = find (λ (def : VoiceDef). bytes_eq def.id id) header.voices

-- the clef of the first voice field of an id; none if music before any voice field has mentioned the voice 1. `alone`
-- is true if no voice was declared or named so far.
abbrev pub decides : List ℕ → Bool → BodyItem → Bool
decides id alone (BodyItem.Voice def line column) = bytes_eq def.id id
decides id alone (BodyItem.Step s) = alone && claims s.step && bytes_eq id voice_one
decides id alone _ = false

abbrev pub clef_of_item : BodyItem → Option Clef
clef_of_item (BodyItem.Voice def line column) = def.clef
clef_of_item _ = None

abbrev pub still_alone : Bool → BodyItem → Bool
still_alone alone (BodyItem.Voice def line column) = false
still_alone alone (BodyItem.Step s) = alone && not (claims s.step)
still_alone alone _ = alone

abbrev pub first_clef : List ℕ → Bool → List BodyItem → Option Clef
first_clef id alone [] = None
first_clef id alone (i ∷ items) =
    if decides id alone i then clef_of_item i else first_clef id (still_alone alone i) items

abbrev pub clef_first : Header → List BodyItem → List ℕ → Option VoiceDef → Option Clef
clef_first header items id (Some def) = def.clef
clef_first header items id None = first_clef id (length header.voices == 0) items

abbrev pub start_clef : Header → List BodyItem → List ℕ → Clef
start_clef header items id = unwrap_or (clef_first header items id (declared header id)) header.clef

-- the last stem direction that a field of the tune names for the voice, or else Auto
abbrev pub wish_if : Bool → Wish → Option Wish
wish_if true wish = Some wish
wish_if false wish = None

abbrev pub wish_of_item : List ℕ → BodyItem → Option Wish
wish_of_item id (BodyItem.Voice def line column) = wish_if (bytes_eq def.id id && def.asks) def.stem
wish_of_item id _ = None

abbrev pub declared_wish : Option VoiceDef → Wish
declared_wish None = Wish.Auto
declared_wish (Some def) = if def.asks then def.stem else Wish.Auto

abbrev pub start_stem : Header → List BodyItem → List ℕ → Wish
start_stem header items id = unwrap_or (last_of (wish_of_item id) items) (declared_wish (declared header id))

abbrev pub start_of : Header → List BodyItem → List ℕ → VoiceStart
start_of header items id = record { id = id; clef = start_clef header items id; stem = start_stem header items id }

abbrev pub starts_of : Header → List BodyItem → List VoiceStart
starts_of header items = map (start_of header items) (voice_ids header items)

-- The steps of a voice. A step belongs to the voice of the last voice field before it; `own` is true if that is this
-- voice. The end of a line is a step of every voice, and a line break is a step of the voice that is current there; a
-- voice field with a clef is a step of the voice that it names.
abbrev pub stood : Step → ℕ → ℕ → PlacedStep
stood s line column = record { step = s; line = line; column = column }

abbrev pub break_if : Bool → ℕ → ℕ → List PlacedStep
break_if true line column = stood Step.Break line column ∷ []
break_if false line column = []

abbrev pub clef_step : Option Clef → ℕ → ℕ → List PlacedStep
clef_step None line column = []
clef_step (Some clef) line column = stood (Step.Clef clef) line column ∷ []

abbrev pub one_if : Bool → PlacedStep → List PlacedStep
one_if true s = s ∷ []
one_if false s = []

abbrev pub named_step : Bool → Option Clef → ℕ → ℕ → List PlacedStep
named_step true clef line column = clef_step clef line column
named_step false clef line column = []

abbrev pub steps_in : List ℕ → Bool → BodyItem → List PlacedStep
steps_in id own (BodyItem.Step s) = one_if own s
steps_in id own (BodyItem.LineEnd joined breaks line column) =
    stood Step.LineEnd line column ∷ break_if (breaks && own) line column
steps_in id own (BodyItem.Voice def line column) = named_step (bytes_eq id def.id) def.clef line column
steps_in id own (BodyItem.Words text line) = []

abbrev pub own_next : List ℕ → Bool → BodyItem → Bool
own_next id own (BodyItem.Voice def line column) = bytes_eq id def.id
own_next id own _ = own

abbrev pub steps_from : List ℕ → Bool → List BodyItem → List PlacedStep
steps_from id own [] = []
steps_from id own (i ∷ items) = steps_in id own i ++ steps_from id (own_next id own i) items

-- before any voice field, music belongs to the voice `unnamed`
abbrev pub steps_of : List ℕ → List ℕ → List BodyItem → List PlacedStep
steps_of id unnamed items = steps_from id (bytes_eq id unnamed) items

-- the current voice after an item
abbrev pub voice_next : BodyItem → List ℕ → List ℕ
voice_next (BodyItem.Voice def line column) now = def.id
voice_next _ now = now
