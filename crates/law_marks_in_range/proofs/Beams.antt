-- Beams go from the column of an event to that of a later one: within a measure the keys of notes rise.
use Rattle.std.proofs.Common.{◌≡◌, ◌∙◌, ℕ, zero, suc, ◌+◌, ◌-◌, Bool, true, false, if◌then◌else◌, List, [], ◌∷◌, map}
use Rattle.std.proofs.Common.{sym}
use Rattle.std.specs.List.{AllByRecursion, Contains}
use Rattle.mus_onsets.specs.declared.keys.ColumnKey.{ColumnKey}
use Rattle.mus_onsets.specs.Order.{is_below, same_key}
use Rattle.mus_onsets.proofs.RankLaws.{false_not_true}
use Rattle.mus_drawn.specs.declared.drawn.DrawnEvent.{DrawnEvent}
use Rattle.mus_drawn.specs.declared.drawn.DrawnMeasure.{DrawnMeasure}
use Rattle.mus_bridges.specs.declared.stems.BeamStem.{BeamStem}
use Rattle.mus_bridges.specs.Beams.{beam_marks, beams_at, beams_from, goes_on_at_level, last_at, level_from}
use Rattle.mus_bridges.specs.Beams.{levels_before, levels_from, stem_of}
use Rattle.mus_bridges.specs.Bridges.{beams_between, beam_stem_at}
use Rattle.mus_slots.proofs.ByKey.{same_itself}
use Rattle.mus_marks.proofs.GoingOn.{AllGoOn, GoOn, IsEarlier, later_below}
use Rattle.mus_marks.proofs.Inside.{HasEvent, HasMeasures}
use Rattle.law_marks_in_range.proofs.Between.{AreBetween, both, unless}

-- ---- over stems
module _ (keys : List ColumnKey) where
  -- if q is in another column than p, it is in a later one of the system
  abbrev IsFrom : BeamStem → BeamStem → Type 0
  IsFrom p q = same_key p.key q.key ≡ false → (is_below p.key q.key ≡ true) × Contains keys q.key

  abbrev AreStems : List BeamStem → Type 0
  AreStems [] = Unit {0}
  AreStems (p ∷ ps) = Contains keys p.key × AllByRecursion (IsFrom p) ps × AreStems ps

  -- the last event of a run is the first or one after it
  last_is : (P : BeamStem → Type 0) (k : ℕ) (p : BeamStem) (qs : List BeamStem)
      → P p → AllByRecursion P qs → P (last_at k p qs)
  last_is P k p [] own all = own
  last_is P k p (q ∷ qs) own all = by (goes_on_at_level k p q) (last_is P k q qs all.0 all.1)
    where
      by : (c : Bool) → P (last_at k q qs) → P (if c then last_at k q qs else p)
      by true more = more
      by false more = own

  itself : (p : BeamStem) → IsFrom p p
  itself p e = absurd (false_not_true (sym e ∙ same_itself p.key))

  level : (k : ℕ) (p q : BeamStem) → Contains keys p.key → IsFrom p q → AreBetween keys (level_from k p q)
  unfolding level_from
  level k p q has from =
      unless keys (same_key p.key q.key) _ (λ e. let to = from e in record { first = has; last = to.1; rise = to.0 })

  levels : (k n : ℕ) (p : BeamStem) (qs : List BeamStem)
      → Contains keys p.key → AllByRecursion (IsFrom p) qs → AreBetween keys (levels_from k n p qs)
  levels k zero p qs has all = tt
  levels k (suc n) p qs has all =
      both keys (level_from k p (last_at k p qs)) (levels_from (k + 1) n p qs)
      (level k p (last_at k p qs) has (last_is (IsFrom p) k p qs (itself p) all)) (levels (k + 1) n p qs has all)

  beams : (group flags : ℕ) (ps : List BeamStem) → AreStems ps → AreBetween keys (beams_from group flags ps)
  unfolding beams_at
  beams group flags [] h = tt
  beams group flags (p ∷ ps) h =
      both keys (beams_at group flags p ps) (beams_from p.group p.flags ps)
      (levels (levels_before p group flags) (p.flags - levels_before p group flags) p ps h.0 h.1)
      (beams p.group p.flags ps h.2)

  -- ---- the beams of measures
  from_event : (m : ℕ) (e : DrawnEvent) (es : List DrawnEvent)
      → AllByRecursion (HasEvent keys m) es → AllByRecursion (IsEarlier e) es
      → AllByRecursion (IsFrom (beam_stem_at m e)) (map (beam_stem_at m) es)
  unfolding stem_of
  from_event m e [] all following = tt
  from_event m e (f ∷ fs) all following =
      (λ apart. (later_below m e f following.0.0, all.0.note), from_event m e fs all.1 following.1)

  stems : (m : ℕ) (es : List DrawnEvent)
      → AllByRecursion (HasEvent keys m) es → GoOn es → AreStems (map (beam_stem_at m) es)
  unfolding stem_of
  stems m [] all on = tt
  stems m (e ∷ es) all on = (all.0.note, from_event m e es all.1 on.0, stems m es all.1 on.1)

  pub beams_go : (lengths : List ℕ) (m : ℕ) (ds : List DrawnMeasure)
      → HasMeasures keys lengths m ds → AllGoOn ds → AreBetween keys (beams_between m ds)
  unfolding beam_marks
  beams_go lengths m [] have on = tt
  beams_go lengths m (d ∷ ds) have on =
      both keys (beam_marks (map (beam_stem_at m) d.events)) (beams_between (m + 1) ds)
      (beams 0 0 (map (beam_stem_at m) d.events) (stems m d.events have.0.events on.0))
      (beams_go lengths (m + 1) ds have.1 on.1)
