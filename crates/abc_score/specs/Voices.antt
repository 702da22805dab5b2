-- The voices of a body as read: each with what it begins with, and its steps.
use Rattle.std.specs.{Prelude.{◌≢◌, ⊤, ℕ, ◌≤◌, ◌^◌, List, [], ◌∷◌, map, length}, List.All}
use Rattle.abc_fields.specs.declared.header.Header.{Header}
use Rattle.abc_steps.specs.declared.step.BodyItem.{BodyItem}
use Rattle.abc_steps.specs.declared.force.InForce.{InForce}
use Rattle.abc_steps.specs.Good.{IsGoodForce, IsGoodPlacedStep}
use Rattle.abc_items.specs.declared.voices.VoiceStart.{VoiceStart}
use Rattle.abc_items.specs.Voices.{starts_of, steps_of, unnamed_of}
use Rattle.abc_words.specs.Verses.{AreOnRows, verses_of_voice}
use Rattle.abc_score.specs.Order.{DoVersesRise}
use Rattle.abc_score.specs.declared.voices.ReadVoice.{ReadVoice}

-- a voice begins with its own first clef, and with the key, the meter and the unit length of the header
abbrev pub first_force : Header → VoiceStart → InForce
first_force header start = record { clef = start.clef; key = header.key; meter = header.meter; unit = header.unit }

-- a voice without its steps
abbrev pub voice_before : Header → List BodyItem → VoiceStart → ReadVoice
voice_before header items start = record {
  start = start;
  first = first_force header start;
  verses = verses_of_voice start.id (unnamed_of header) items;
  steps = [];
}

-- with its steps
abbrev pub voice_read : Header → List BodyItem → VoiceStart → ReadVoice
voice_read header items start =
    record (voice_before header items start) { steps = steps_of start.id (unnamed_of header) items }

-- in order of first mention
abbrev pub voices_read : Header → List BodyItem → List ReadVoice
voices_read header items = map (voice_read header items) (starts_of header items)

-- ids no two of which are the same
abbrev pub IsNoneOfIds : List ℕ → List (List ℕ) → Type 0
IsNoneOfIds id [] = ⊤
IsNoneOfIds id (other ∷ ids) = (id ≢ other) × IsNoneOfIds id ids

abbrev pub AreDistinctIds : List (List ℕ) → Type 0
AreDistinctIds [] = ⊤
AreDistinctIds (id ∷ ids) = IsNoneOfIds id ids × AreDistinctIds ids

abbrev pub read_ids : List ReadVoice → List (List ℕ)
read_ids voices = map (λ (v : ReadVoice). v.start.id) voices

-- what the walks along a voice require
pub record IsGoodRead (v : ReadVoice) : Type 0 where
  pub few : length v.steps ≤ 2 ^ 30
  pub first : IsGoodForce v.first
  pub steps : All IsGoodPlacedStep v.steps
  pub on_rows : AreOnRows v.verses
  pub rise : DoVersesRise v.verses
