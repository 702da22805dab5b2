-- Beams and arcs of a voice go from one of the columns of its system to a later one.
use Rattle.std.proofs.Common.{◌≡◌, ℕ, ◌+◌, ◌-◌, ◌<◌, ◌≤◌, List, ◌++◌, length, drop, get_or, subst, arith}
use Rattle.std.specs.List.{All, Contains, slice_range}
use Rattle.mus_score.specs.declared.score.Score.{Score}
use Rattle.mus_score.specs.GoodScore.{IsGoodScore, IsGoodVoice}
use Rattle.mus_onsets.specs.declared.keys.ColumnKey.{ColumnKey}
use Rattle.mus_onsets.specs.Keys.{AreKeys, bar_key, called_keys}
use Rattle.mus_onsets.specs.Onsets.{timeline_of}
use Rattle.mus_onsets.proofs.Places.{places_of}
use Rattle.mus_stems.proofs.RunLaws.{all_drop, all_take}
use Rattle.mus_drawn.specs.Drawn.{drawn_voice}
use Rattle.mus_bridges.specs.Arcs.{arcs_between}
use Rattle.mus_bridges.specs.Bridges.{beams_between, bridges_of, grace_beams_between}
use Rattle.mus_marks.proofs.{GoingOn.{GoOn, voice_goes_on}, Inside.{bars_inside, head_inside, measures_inside}}
use Rattle.law_marks_in_range.proofs.Arcs.{arcs_go_on, voice_arcs_go}
use Rattle.law_marks_in_range.proofs.Beams.{beams_go}
use Rattle.law_marks_in_range.proofs.Between.{AreBetween, both}
use Rattle.law_marks_in_range.proofs.GraceBeams.{grace_beams_go}

module _ (s : Score) (a b : ℕ) (keys : List ColumnKey) (good : IsGoodScore s) (order : a < b) (within : b ≤ s.measures)
    (are : AreKeys keys (called_keys s (timeline_of s).lengths a b)) where
  -- the bar of the last measure
  pub last_bar : 1 ≤ length s.voices → Contains keys (bar_key (timeline_of s).lengths (b - 1))
  last_bar some =
      let last : a + (b - 1 - a) ≡ b - 1 = omega (arith, order) in
      subst (λ m. Contains keys (bar_key (timeline_of s).lengths m)) last
      (bars_inside s (timeline_of s).lengths a b keys good some within are (b - 1 - a) (omega (arith, order)))

  pub voices_between : All (λ v. AreBetween keys (bridges_of (timeline_of s).lengths a b (drawn_voice v))) s.voices
  voices_between k d inside =
      let lengths = (timeline_of s).lengths in
      let v = get_or s.voices k d in
      let own : IsGoodVoice v = good.voices k d inside in
      let ds = (drawn_voice v).measures in
      let some = slice_range ds a b in
      let on = voice_goes_on v own in
      let have = measures_inside s lengths a b keys good within are k d inside in
      both keys (beams_between a some ++ grace_beams_between a some) (arcs_between lengths a b ds (drawn_voice v).arcs)
      (both keys (beams_between a some) (grace_beams_between a some)
      (beams_go keys lengths a some have
      (all_take (λ d. GoOn d.events) (b - a) (drop a ds) (all_drop (λ d. GoOn d.events) a ds on)))
      (grace_beams_go keys lengths a some have))
      (arcs_go_on keys lengths a b ds (record {
        order = order;
        head = head_inside s lengths a b keys good (omega (arith, inside)) are;
        bar = last_bar (omega (arith, inside));
        measures = have;
        places = places_of s a b keys good order within are;
        on = on;
      }) (drawn_voice v).arcs (voice_arcs_go v own))
