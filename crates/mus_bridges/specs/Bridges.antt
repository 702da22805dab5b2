-- What a voice has between the columns of a system: the beams of notes, those of graces, and the arcs.
use Rattle.std.specs.Prelude.{ℕ, ◌+◌, List, [], ◌∷◌, ◌++◌, length, map, flat_map, slice_range}
use Rattle.mus_score.specs.declared.score.Event.{Event}
use Rattle.mus_onsets.specs.declared.keys.Class.{Class}
use Rattle.mus_onsets.specs.Keys.{key_at}
use Rattle.mus_laid.specs.declared.drawn.Bridge.{Bridge}
use Rattle.mus_ink.specs.Graces.{grace_beam, group_of}
use Rattle.mus_drawn.specs.declared.drawn.DrawnEvent.{DrawnEvent}
use Rattle.mus_drawn.specs.declared.drawn.DrawnMeasure.{DrawnMeasure}
use Rattle.mus_drawn.specs.declared.drawn.DrawnVoice.{DrawnVoice}
use Rattle.mus_time.specs.Columns.{note_key}
use Rattle.mus_bridges.specs.declared.stems.BeamStem.{BeamStem}
use Rattle.mus_bridges.specs.Arcs.{arcs_between}
use Rattle.mus_bridges.specs.Beams.{beam_marks, stem_of}

-- the beams of notes, measure by measure from number m on
abbrev pub beam_stem_at : ℕ → DrawnEvent → BeamStem
beam_stem_at m e = stem_of (note_key m e) e.plan

abbrev pub beams_between : ℕ → List DrawnMeasure → List Bridge
beams_between m [] = []
beams_between m (d ∷ ds) = beam_marks (map (beam_stem_at m) d.events) ++ beams_between (m + 1) ds

-- the beam of the graces before an event, from the column of the first to that of the last
abbrev pub beam_over : ℕ → DrawnEvent → List Event → List Bridge
beam_over m e [] = []
beam_over m e (g ∷ gs) =
    grace_beam (key_at m e.tick Class.Grace 0) (key_at m e.tick Class.Grace (length gs))
    (group_of e.clef e.flat.graces e.flat.slash)

abbrev pub event_grace_beam : ℕ → DrawnEvent → List Bridge
event_grace_beam m e = beam_over m e e.flat.graces

abbrev pub grace_beams_between : ℕ → List DrawnMeasure → List Bridge
grace_beams_between m [] = []
grace_beams_between m (d ∷ ds) = flat_map (event_grace_beam m) d.events ++ grace_beams_between (m + 1) ds

-- in the system of measures a to b - 1
abbrev pub bridges_of : List ℕ → ℕ → ℕ → DrawnVoice → List Bridge
bridges_of lengths a b v =
    beams_between a (slice_range v.measures a b) ++ grace_beams_between a (slice_range v.measures a b)
    ++ arcs_between lengths a b v.measures v.arcs
