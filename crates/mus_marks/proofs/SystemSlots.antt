-- In each system of a good score the columns of its voices rise and are among its own, also if the stems of its beams
-- end on lines.
use Rattle.std.proofs.Common.{◌≡◌, ◌≤◌, ◌<◌, ℕ, ℤ, List, map}
use Rattle.std.proofs.lemmas.List.Elements.{All-from_recursion}
use Rattle.std.specs.List.{All, slice_range}
use Rattle.mus_score.specs.declared.score.Score.{Score}
use Rattle.mus_score.specs.GoodScore.{IsGoodScore}
use Rattle.mus_onsets.specs.declared.keys.ColumnKey.{ColumnKey}
use Rattle.mus_onsets.specs.declared.times.Timeline.{Timeline}
use Rattle.mus_onsets.specs.Keys.{AreKeys, called_keys}
use Rattle.mus_onsets.specs.Onsets.{timeline_of}
use Rattle.mus_drawn.specs.declared.drawn.DrawnVoice.{DrawnVoice}
use Rattle.mus_drawn.specs.Drawn.{drawn_voice}
use Rattle.mus_slots.specs.Words.{IsOrdered}
use Rattle.mus_slots.proofs.Marks.{all_weaker}
use Rattle.mus_marks.specs.Tilt.{sloped_over, voice_tilted}
use Rattle.mus_marks.proofs.Placed.{IsReady, all_ready, slots_ordered}
use Rattle.mus_marks.proofs.Tilted.{ended_slotted}

module _ (s : Score) (t : Timeline) (a b : ℕ) (keys : List ColumnKey) (timed : t ≡ timeline_of s) (good : IsGoodScore s)
    (order : a < b) (within : b ≤ s.measures) (are : AreKeys keys (called_keys s t.lengths a b)) where
  abbrev Ready : DrawnVoice → Type 0
  Ready = IsReady keys t.lengths a b

  from_ready : (P : DrawnVoice → Type 0) → ((v : DrawnVoice) → Ready v → P v) → All P (map drawn_voice s.voices)
  from_ready P f =
      All-from_recursion P (map drawn_voice s.voices)
      (all_weaker Ready P f (map drawn_voice s.voices) (all_ready s t a b keys timed good order within are))

  pub voices_ordered : All (IsOrdered keys t.lengths a b) (map drawn_voice s.voices)
  voices_ordered =
      from_ready (IsOrdered keys t.lengths a b) (λ v is. slots_ordered keys t.lengths a b v is.slotted)

  pub tilted_ordered : (at : List ℤ)
      → All (λ v. IsOrdered keys t.lengths a b (voice_tilted keys at a b v)) (map drawn_voice s.voices)
  tilted_ordered at =
      from_ready (λ v. IsOrdered keys t.lengths a b (voice_tilted keys at a b v))
      (λ v is.
      slots_ordered keys t.lengths a b (voice_tilted keys at a b v)
      (ended_slotted keys t.lengths a b (sloped_over keys at a (slice_range v.measures a b)) v is.some is.seated
      is.slotted))
