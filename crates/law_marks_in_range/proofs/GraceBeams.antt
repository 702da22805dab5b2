-- The beam of graces goes from the column of the first to that of the last, if there are two or more.
use Rattle.std.proofs.Common.{◌≡◌, ℕ, suc, ◌+◌, ◌<◌, true, false, ◌==◌, List, [], ◌∷◌, length, refl, ap, subst, arith}
use Rattle.std.proofs.lemmas.Bool.Decides.{nat_tests}
use Rattle.std.specs.List.{AllByRecursion, flat_map}
use Rattle.mus_score.specs.declared.score.Event.{Event}
use Rattle.mus_onsets.specs.declared.keys.Class.{Class}
use Rattle.mus_onsets.specs.declared.keys.ColumnKey.{ColumnKey}
use Rattle.mus_onsets.specs.Keys.{key_at}
use Rattle.mus_onsets.specs.Order.{is_below}
use Rattle.mus_ink.specs.Graces.{grace_beam, group_of}
use Rattle.mus_drawn.specs.declared.drawn.DrawnEvent.{DrawnEvent}
use Rattle.mus_drawn.specs.declared.drawn.DrawnMeasure.{DrawnMeasure}
use Rattle.mus_bridges.specs.Bridges.{beam_over, event_grace_beam, grace_beams_between}
use Rattle.mus_marks.proofs.Inside.{HasEvent, HasMeasures}
use Rattle.law_marks_in_range.proofs.Between.{AreBetween, both, unless}

further_below : (m tick i j : ℕ) → i < j → is_below (key_at m tick Class.Grace i) (key_at m tick Class.Grace j) ≡ true
unfolding is_below
further_below m tick i j h = grind (arith, nat_tests)

-- graces, if not exactly one, are more
more_than_one : (n : ℕ) → (suc n == 1) ≡ false → 0 < n
more_than_one n e = grind (arith, nat_tests)

module _ (keys : List ColumnKey) where
  over_graces : (m : ℕ) (e : DrawnEvent) (gs : List Event)
      → e.flat.graces ≡ gs → HasEvent keys m e → AreBetween keys (beam_over m e gs)
  unfolding grace_beam group_of
  over_graces m e [] is has = tt
  over_graces m e (g ∷ gs) is has =
      let count : length e.flat.graces ≡ suc (length gs) = ap length is in
      unless keys (group_of e.clef e.flat.graces e.flat.slash).alone _ (λ alone. record {
        first = has.graces 0 (omega (arith, count));
        last = has.graces (length gs) (omega (arith, count));
        rise =
            further_below m e.tick 0 (length gs)
            (more_than_one (length gs) (subst (λ k. (k == 1) ≡ false) count alone));
      })

  events_go : (m : ℕ) (es : List DrawnEvent)
      → AllByRecursion (HasEvent keys m) es → AreBetween keys (flat_map (event_grace_beam m) es)
  events_go m [] all = tt
  events_go m (e ∷ es) all =
      both keys (event_grace_beam m e) (flat_map (event_grace_beam m) es) (over_graces m e e.flat.graces refl all.0)
      (events_go m es all.1)

  pub grace_beams_go : (lengths : List ℕ) (m : ℕ) (ds : List DrawnMeasure)
      → HasMeasures keys lengths m ds → AreBetween keys (grace_beams_between m ds)
  grace_beams_go lengths m [] have = tt
  grace_beams_go lengths m (d ∷ ds) have =
      both keys (flat_map (event_grace_beam m) d.events) (grace_beams_between (m + 1) ds)
      (events_go m d.events have.0.events) (grace_beams_go lengths (m + 1) ds have.1)
