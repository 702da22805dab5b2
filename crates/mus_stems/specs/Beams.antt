-- Which neighbours of a voice and measure a beam joins: notes of 1/8 and less with no space and no line end between
-- them. A beam is a maximal run of two or more such notes; a run of one is an event without a beam.
use Rattle.std.specs.Prelude.{Bool, not, ◌&&◌, nat_lt, List, length}
use Rattle.mus_stems.specs.{declared.stills.StemInput.StemInput, Stills.flags_of, Runs.runs}

-- whether an event can be in a beam: a note with a flag
unfoldable pub is_beamed : StemInput → Bool
is_beamed e = nat_lt 0 (length e.stands) && nat_lt 0 (flags_of e.base)

-- whether a beam joins two neighbours
unfoldable pub is_joined : StemInput → StemInput → Bool
is_joined d e = is_beamed d && is_beamed e && not e.parted

abbrev pub beams : List StemInput → List (List StemInput)
beams = runs is_joined
