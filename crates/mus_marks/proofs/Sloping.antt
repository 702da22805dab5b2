-- Stems of drawn events can end on lines: own ends and abscissas are in range, and abscissas rise from event to event.
use Rattle.std.proofs.Common.{◌≡◌, ℕ, zero, suc, ℤ, pos, ◌+◌, ◌-◌, ◌<◌, ◌≤◌, ◌<ℤ◌, List, [], ◌∷◌, length, map, drop}
use Rattle.std.proofs.Common.{subst, arith}
use Rattle.std.proofs.lemmas.Int.{ints}
use Rattle.std.proofs.lemmas.List.{get_or-map, length-map}
use Rattle.std.proofs.lemmas.List.Elements.{All-map}
use Rattle.std.specs.List.{All, AllByRecursion, slice_index_or, slice_range}
use Rattle.mus_score.specs.{declared.score.Score.Score, GoodScore.IsGoodScore}
use Rattle.mus_onsets.specs.declared.keys.ColumnKey.{ColumnKey}
use Rattle.mus_onsets.specs.declared.times.Timeline.{Timeline}
use Rattle.mus_onsets.specs.Keys.{AreKeys, called_keys}
use Rattle.mus_onsets.proofs.RankLaws.{rank_less, rank_rises_more}
use Rattle.mus_stems.specs.Slope.{slope_input, AreAnchors, IsAbscissa, RisesAfter, RisesInBeams}
use Rattle.mus_stems.proofs.RunLaws.{all_drop, all_take}
use Rattle.mus_drawn.specs.declared.drawn.DrawnEvent.{DrawnEvent}
use Rattle.mus_drawn.specs.declared.drawn.DrawnMeasure.{DrawnMeasure}
use Rattle.mus_drawn.specs.Drawn.{drawn_voice}
use Rattle.mus_drawn.specs.Good.{AreGoodDrawn, AreGoodMeasures}
use Rattle.mus_time.proofs.Goods.{good_slice}
use Rattle.mus_time.specs.Columns.{note_key}
use Rattle.mus_marks.specs.Events.{note_rank}
use Rattle.mus_marks.specs.Tilt.{AllCanTilt, AreAbscissas, anchor_at}
use Rattle.mus_marks.proofs.GoingOn.{AllGoOn, GoOn, later_below, voice_goes_on}
use Rattle.mus_marks.proofs.Inside.{HasEvent, HasMeasures, measures_inside}

module _ (s : Score) (t : Timeline) (a b : ℕ) (keys : List ColumnKey) (at : List ℤ) (places : AreAbscissas s t a b at)
    (are : AreKeys keys (called_keys s t.lengths a b)) where
  further : (i n : ℕ) → i + suc n < length at → slice_index_or at i (pos 0) <ℤ slice_index_or at (i + suc n) (pos 0)
  further i zero h = places.rise i h
  further i (suc n) h =
      let more = further i n (omega (arith, h)) in
      let last = places.rise (i + suc n) (omega (arith, h)) in
      let e : i + suc n + 1 ≡ i + suc (suc n) = omega arith in
      subst (λ k. slice_index_or at i (pos 0) <ℤ slice_index_or at k (pos 0)) e (omega (arith, ints, more, last))

  later : (i j : ℕ) → i < j → j < length at → slice_index_or at i (pos 0) <ℤ slice_index_or at j (pos 0)
  later i j h inside =
      let e : i + suc (j - i - 1) ≡ j = omega (arith, h) in
      subst (λ k. slice_index_or at i (pos 0) <ℤ slice_index_or at k (pos 0)) e
      (further i (j - i - 1) (omega (arith, h, inside)))

  place : (m : ℕ) (e : DrawnEvent) → HasEvent keys m e → IsAbscissa (slice_index_or at (note_rank keys m e) (pos 0))
  place m e has =
      let less : note_rank keys m e < length at =
      omega (arith, rank_less keys (note_key m e) has.note, places.each keys are) in
      (places.low (note_rank keys m e) less, places.high (note_rank keys m e) less)

  all_in : (m : ℕ) (es : List DrawnEvent)
      → AllByRecursion (HasEvent keys m) es → AreGoodDrawn es → AreAnchors (map (anchor_at keys at m) es)
  unfolding slope_input
  all_in m [] has good = tt
  all_in m (e ∷ es) has good = ((good.0.end.0, good.0.end.1, place m e has.0), all_in m es has.1 good.1)

  rise_after : (m : ℕ) (e : DrawnEvent) (es : List DrawnEvent)
      → HasEvent keys m e → AllByRecursion (HasEvent keys m) es → GoOn (e ∷ es)
      → RisesAfter (anchor_at keys at m e) (map (anchor_at keys at m) es)
  unfolding slope_input
  rise_after m e [] own has on = tt
  rise_after m e (f ∷ fs) own has on =
      let less : note_rank keys m f < length at =
      omega (arith, rank_less keys (note_key m f) has.0.note, places.each keys are) in
      let rise = rank_rises_more keys (note_key m e) (note_key m f) (later_below m e f on.0.0.0) own.note in
      (λ shares. later (note_rank keys m e) (note_rank keys m f) rise less, rise_after m f fs has.0 has.1 on.1)

  rises : (m : ℕ) (es : List DrawnEvent)
      → AllByRecursion (HasEvent keys m) es → GoOn es → RisesInBeams (map (anchor_at keys at m) es)
  rises m [] has on = tt
  rises m (e ∷ es) has on = rise_after m e es has.0 has.1 on

  measures : (m : ℕ) (ds : List DrawnMeasure)
      → HasMeasures keys t.lengths m ds → AreGoodMeasures ds → AllGoOn ds → AllCanTilt keys at m ds
  measures m [] has good on = tt
  measures m (d ∷ ds) has good on = (
    record { anchors = all_in m d.events has.0.events good.0.events; rise = rises m d.events has.0.events on.0 },
    measures (m + 1) ds has.1 good.1 on.1,
  )

  -- each voice of a good score
  pub voices_can : IsGoodScore s
      → b ≤ s.measures
      → All (λ v. AreGoodMeasures v.measures) (map drawn_voice s.voices)
      → All (λ v. AllCanTilt keys at a (slice_range v.measures a b)) (map drawn_voice s.voices)
  voices_can good within drawn =
      All-map (λ v. AllCanTilt keys at a (slice_range v.measures a b)) drawn_voice s.voices (λ k d inside.
      let v = slice_index_or s.voices k d in
      let ds = (drawn_voice v).measures in
      let count = length-map s.voices drawn_voice in
      let goods = subst (λ w. AreGoodMeasures w.measures) (get_or-map drawn_voice s.voices k d (drawn_voice d) inside)
      (drawn k (drawn_voice d) (omega (arith, inside, count))) in
      measures a (slice_range ds a b) (measures_inside s t.lengths a b keys good within are k d inside)
      (good_slice a (b - a) ds goods)
      (all_take (λ d. GoOn d.events) (b - a) (drop a ds)
      (all_drop (λ d. GoOn d.events) a ds (voice_goes_on v (good.voices k d inside)))))
