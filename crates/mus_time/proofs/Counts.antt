-- A drawn voice has as many measures as the voice, and a score as many lengths as measures.
use Rattle.std.proofs.Common.{◌≡◌, ◌∙◌, ℕ, suc, List, [], ◌∷◌, length, map, refl, sym, ap, subst}
use Rattle.std.proofs.lemmas.List.Elements.{All-map}
use Rattle.std.specs.List.{All}
use Rattle.mus_score.specs.declared.score.Measure.{Measure}
use Rattle.mus_score.specs.declared.score.Score.{Score}
use Rattle.mus_score.specs.declared.score.Voice.{Voice}
use Rattle.mus_score.specs.GoodScore.{IsGoodScore}
use Rattle.mus_score.specs.Times.{flats_of}
use Rattle.mus_onsets.specs.declared.times.Timeline.{Timeline}
use Rattle.mus_onsets.specs.Onsets.{timeline_of}
use Rattle.mus_onsets.proofs.Places.{length_of_lengths}
use Rattle.mus_drawn.specs.declared.standing.StaffState.{StaffState}
use Rattle.mus_drawn.specs.declared.drawn.DrawnVoice.{DrawnVoice}
use Rattle.mus_drawn.specs.declared.drawn.Style.{Style}
use Rattle.mus_drawn.specs.Drawn.{drawn_measures, drawn_voice, staff_state_after, standing_of, style_of}

drawn_count : (style : Style) (now : StaffState) (ms : List Measure) → length (drawn_measures style now ms) ≡ length ms
drawn_count style now [] = refl
drawn_count style now (m ∷ ms) = ap suc (drawn_count style (staff_state_after now (flats_of m.body)) ms)

pub voice_count : (v : Voice) → length (drawn_voice v).measures ≡ length v.measures
unfolding drawn_voice
voice_count v = drawn_count (style_of v) (standing_of v) v.measures

module _ (s : Score) (t : Timeline) (lengths : List ℕ) (is : lengths ≡ t.lengths) (timed : t ≡ timeline_of s) where
  pub lengths_count : length lengths ≡ s.measures
  lengths_count = ap length (is ∙ ap (λ z. z.lengths) timed) ∙ length_of_lengths s

  pub voices_count : (voices : List DrawnVoice)
      → IsGoodScore s → voices ≡ map drawn_voice s.voices → All (λ v. length v.measures ≡ length lengths) voices
  voices_count voices good drawn =
      subst (All (λ v. length v.measures ≡ length lengths)) (sym drawn)
      (All-map (λ v. length v.measures ≡ length lengths) drawn_voice s.voices
      (λ k d inside. voice_count _ ∙ good.measures k d inside ∙ sym lengths_count))
