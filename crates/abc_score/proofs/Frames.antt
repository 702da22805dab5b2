-- The voices of a score: each has all its measures, no two have the same id, and the first begins a staff.
use Rattle.std.proofs.Common.{◌≡◌, ◌≢◌, ◌∙◌, refl, ℕ, List, [], ◌∷◌, length, map}
use Rattle.std.proofs.lemmas.List.Elements.{All-map}
use Rattle.std.proofs.lemmas.List.FromFn.{length-map-range_with_len}
use Rattle.std.specs.List.{All, AllByRecursion}
use Rattle.mus_score.specs.declared.score.Voice.{Voice}
use Rattle.mus_score.specs.GoodScore.{IsLed}
use Rattle.mus_score.specs.Walks.{Distinct}
use Rattle.abc_fields.specs.declared.header.Header.{Header}
use Rattle.abc_signs.specs.Signs.{signs}
use Rattle.abc_events.specs.Bars.{bar_of, bars_of}
use Rattle.abc_events.specs.Leaves.{leaves_of}
use Rattle.abc_events.specs.Measures.{measure_of_leaves}
use Rattle.abc_score.specs.declared.voices.ReadVoice.{ReadVoice}
use Rattle.abc_score.specs.Voices.{AreDistinctIds, IsNoneOfIds, read_ids}
use Rattle.abc_score.specs.Score.{sung_words, voice_by_header, written_measures}

module _ (header : Header) (n : ℕ) where
  -- a voice has as many measures as it is given
  pub length_voice : (v : ReadVoice) → length (voice_by_header header n v).measures ≡ n
  unfolding voice_by_header written_measures
  length_voice v =
      let all = signs v.first [] v.steps in let bars = bars_of v.steps n in
      length-map-range_with_len
      (measure_of_leaves (leaves_of (sung_words v.verses all) all) bars) 0 (length bars)
      ∙ length-map-range_with_len (bar_of v.steps) 0 n

  pub lengths_agree : (voices : List ReadVoice)
      → All (λ (v : Voice). length v.measures ≡ n) (map (voice_by_header header n) voices)
  lengths_agree voices =
      All-map (λ (v : Voice). length v.measures ≡ n) (voice_by_header header n) voices
      (λ k d less. length_voice _)

  other_voices : (v : ReadVoice) (voices : List ReadVoice) → IsNoneOfIds v.start.id (read_ids voices)
      → AllByRecursion (λ (w : Voice). (voice_by_header header n v).id ≢ w.id)
      (map (voice_by_header header n) voices)
  unfolding voice_by_header
  other_voices v [] others = tt
  other_voices v (w ∷ voices) others = (others.0, other_voices v voices others.1)

  pub voices_apart : (voices : List ReadVoice)
      → AreDistinctIds (read_ids voices) → Distinct (map (voice_by_header header n) voices)
  voices_apart [] apart = tt
  voices_apart (v ∷ voices) apart = (other_voices v voices apart.0, voices_apart voices apart.1)

  -- a voice as read is alone on its staff
  pub voices_led : (voices : List ReadVoice) → IsLed (map (voice_by_header header n) voices)
  unfolding voice_by_header
  voices_led [] = tt
  voices_led (v ∷ voices) = refl
