-- The beams of a measure, over the stems of its events, each with the key of its column.
use Rattle.std.specs.Prelude.{ℕ, zero, suc, ◌+◌, ◌-◌, Bool, true, false, ◌&&◌, ◌==◌, nat_lt, if◌then◌else◌, List, []}
use Rattle.std.specs.Prelude.{◌∷◌, ◌++◌}
use Rattle.mus_units.specs.declared.glyph.Way.{Way}
use Rattle.mus_stems.specs.declared.plans.StemPlan.{StemPlan}
use Rattle.mus_laid.specs.declared.drawn.Bridge.{Bridge}
use Rattle.mus_onsets.specs.declared.keys.ColumnKey.{ColumnKey}
use Rattle.mus_onsets.specs.Order.{same_key}
use Rattle.mus_ink.specs.Drawing.{beam}
use Rattle.mus_ink.specs.Stems.{lower_edge}
use Rattle.mus_bridges.specs.declared.stems.BeamStem.{BeamStem}

unfoldable pub stem_of : ColumnKey → StemPlan → BeamStem
stem_of key plan = record { key = key; up = plan.up; to = plan.to; group = plan.group; flags = plan.flags }

abbrev pub way_of : Bool → Way
way_of true = Way.Up
way_of false = Way.Down

-- whether the next event is in the same beam and also has level k, from 0
unfoldable pub goes_on_at_level : ℕ → BeamStem → BeamStem → Bool
goes_on_at_level k p q = (q.group == p.group) && nat_lt k q.flags

-- the last event of p's run at level k, among the events after p
abbrev pub last_at : ℕ → BeamStem → List BeamStem → BeamStem
last_at k p [] = p
last_at k p (q ∷ qs) = if goes_on_at_level k p q then last_at k q qs else p

-- level k of the run from p to q: no beam if that is one event
unfoldable pub level_from : ℕ → BeamStem → BeamStem → List Bridge
level_from k p q =
    if same_key p.key q.key then []
    else beam (way_of p.up) p.key q.key (lower_edge p.up p.to k) (lower_edge q.up q.to k) ∷ []

-- n levels from k on of the runs that begin at p
abbrev pub levels_from : ℕ → ℕ → BeamStem → List BeamStem → List Bridge
levels_from k zero p qs = []
levels_from k (suc n) p qs = level_from k p (last_at k p qs) ++ levels_from (k + 1) n p qs

-- the levels of the event before p in its beam, 0 for none
unfoldable pub levels_before : BeamStem → ℕ → ℕ → ℕ
levels_before p group flags = if p.group == group then flags else 0

-- the beams that begin at p, at the levels that the event before it in its beam does not have
unfoldable pub beams_at : ℕ → ℕ → BeamStem → List BeamStem → List Bridge
beams_at group flags p qs = levels_from (levels_before p group flags) (p.flags - levels_before p group flags) p qs

abbrev pub beams_from : ℕ → ℕ → List BeamStem → List Bridge
beams_from group flags [] = []
beams_from group flags (p ∷ ps) = beams_at group flags p ps ++ beams_from p.group p.flags ps

-- by their first event, then by level; the first event has none before it
unfoldable pub beam_marks : List BeamStem → List Bridge
beam_marks ps = beams_from 0 0 ps
