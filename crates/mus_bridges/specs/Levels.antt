-- The levels of beams. Level k, from 0, of a beam joins each maximal run of neighbours in it that have more than k
-- flags. A run of two or more events is drawn, from its first to its last; a run of one is a stub. The drawn runs are
-- ordered by first event, and at one event by level.
use Rattle.std.specs.Prelude.{◌≡◌, ℕ, ◌+◌, ◌≤◌, Bool, false, ◌&&◌, ◌==◌, nat_lt, ⊤, List, [], ◌∷◌, ◌++◌, map, filter}
use Rattle.std.specs.List.{AllByRecursion}
use Rattle.mus_stems.specs.Runs.{AreMaximalRuns}
use Rattle.mus_laid.specs.declared.drawn.Bridge.{Bridge}
use Rattle.mus_ink.specs.Drawing.{beam}
use Rattle.mus_ink.specs.Stems.{lower_edge}
use Rattle.mus_bridges.specs.declared.stems.BeamStem.{BeamStem}
use Rattle.mus_bridges.specs.Beams.{way_of, beam_marks}
use Rattle.mus_onsets.specs.Order.{same_key}

-- whether level k joins two neighbours: both are in one beam and have it
abbrev pub joins : ℕ → BeamStem → BeamStem → Bool
joins k p q = ((q.group == p.group) && nat_lt k q.flags) && nat_lt k p.flags

-- a run at a level, from one event to another
pub record Level : Type 0 where
  pub level : ℕ
  pub first : BeamStem
  pub last : BeamStem

abbrev pub last_in : BeamStem → List BeamStem → BeamStem
last_in p [] = p
last_in p (q ∷ qs) = last_in q qs

-- the maximal runs at level k that have two or more events
abbrev pub long_runs : ℕ → List (List BeamStem) → List Level
long_runs k [] = []
long_runs k ([] ∷ rs) = long_runs k rs
long_runs k ((p ∷ []) ∷ rs) = long_runs k rs
long_runs k ((p ∷ q ∷ qs) ∷ rs) = record { level = k; first = p; last = last_in q qs } ∷ long_runs k rs

abbrev pub is_at : ℕ → Level → Bool
is_at k l = l.level == k

-- each level above the one before, and all from level k on
abbrev pub LevelsRise : ℕ → List Level → Type 0
LevelsRise k [] = ⊤
LevelsRise k (l ∷ ls) = (k ≤ l.level) × LevelsRise (l.level + 1) ls

-- levels that begin at the first event, in order, and then those that begin further on
abbrev pub ByFirst : List BeamStem → List Level → Type 0
ByFirst [] ls = ls ≡ []
ByFirst (e ∷ es) ls =
    (here : List Level)
    × (following : List Level)
    × (ls ≡ here ++ following)
    × AllByRecursion (λ l. l.first ≡ e) here
    × LevelsRise 0 here
    × ByFirst es following

-- what is drawn of the levels of the events of a measure
pub record AreLevels (es : List BeamStem) (ls : List Level) : Type 0 where
  pub runs : (k : ℕ) (rs : List (List BeamStem)) → AreMaximalRuns (joins k) es rs → filter (is_at k) ls ≡ long_runs k rs
  pub order : ByFirst es ls

-- the beam of a level, between the lower edges at its ends
abbrev pub bridge_of : Level → Bridge
bridge_of l =
    let p = l.first in
    let q = l.last in
    beam (way_of p.up) p.key q.key (lower_edge p.up p.to l.level) (lower_edge q.up q.to l.level)

pub record AreBeams (es : List BeamStem) (marks : List Bridge) : Type 0 where
  pub levels : List Level
  pub are : AreLevels es levels
  pub drawn : marks ≡ map bridge_of levels

-- the events of a measure have distinct keys
abbrev pub OfOtherKeys : BeamStem → List BeamStem → Type 0
OfOtherKeys p qs = AllByRecursion (λ q. same_key p.key q.key ≡ false) qs

abbrev pub KeysDiffer : List BeamStem → Type 0
KeysDiffer [] = ⊤
KeysDiffer (p ∷ ps) = OfOtherKeys p ps × KeysDiffer ps

-- the beams that are drawn for a measure are those of its levels
abbrev pub BeamsByLevels : Type 0
BeamsByLevels = (es : List BeamStem) → KeysDiffer es → AreBeams es (beam_marks es)
