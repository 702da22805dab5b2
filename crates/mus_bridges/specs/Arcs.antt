-- The pieces of a voice's arcs in a system.
use Rattle.std.specs.Prelude.{ℕ, ◌-◌, ◌==◌, Bool, if◌then◌else◌, List, [], ◌∷◌, flat_map, slice_get, Option, Some, None}
use Rattle.std.specs.List.{find}
use Rattle.mus_onsets.specs.declared.keys.ColumnKey.{ColumnKey}
use Rattle.mus_onsets.specs.Keys.{bar_key, head_key}
use Rattle.mus_arcs.specs.declared.pairing.Arc.{Arc}
use Rattle.mus_arcs.specs.declared.cutting.Piece.{Piece}
use Rattle.mus_arcs.specs.Pieces.{piece_of}
use Rattle.mus_laid.specs.declared.drawn.Bridge.{Bridge}
use Rattle.mus_words.specs.Arcs.{ArcEndEvent, arc_mark}
use Rattle.mus_drawn.specs.declared.drawn.DrawnEvent.{DrawnEvent}
use Rattle.mus_drawn.specs.declared.drawn.DrawnMeasure.{DrawnMeasure}
use Rattle.mus_time.specs.Columns.{note_key}

abbrev pub has_id : ℕ → DrawnEvent → Bool
has_id id e = e.flat.event.id == id

abbrev pub event_in : ℕ → Option DrawnMeasure → Option DrawnEvent
event_in id None = None
event_in id (Some d) = find (has_id id) d.events

-- the event with an id in measure m of a voice
abbrev pub event_at : List DrawnMeasure → ℕ → ℕ → Option DrawnEvent
event_at ds m id = event_in id (slice_get ds m)

abbrev pub seen_of : DrawnEvent → ArcEndEvent
seen_of e = record { clef = e.clef; heads = e.flat.event.heads; plan = e.plan }

-- an end that the system cuts is at its head, or at the bar of its last measure
abbrev pub left_key : ℕ → Piece → ℕ → DrawnEvent → ColumnKey
left_key a piece m e = if piece.cut_left then head_key a else note_key m e

abbrev pub right_key : List ℕ → ℕ → Piece → ℕ → DrawnEvent → ColumnKey
right_key lengths b piece m e = if piece.cut_right then bar_key lengths (b - 1) else note_key m e

abbrev pub arc_between : List ℕ → ℕ → ℕ → Piece → Arc → Option DrawnEvent → Option DrawnEvent → List Bridge
arc_between lengths a b piece arc None last = []
arc_between lengths a b piece arc (Some e) None = []
arc_between lengths a b piece arc (Some e) (Some f) =
    arc_mark (left_key a piece arc.from e) (right_key lengths b piece arc.to f) piece arc (seen_of e) (seen_of f) ∷ []

abbrev pub piece_between : List ℕ → ℕ → ℕ → List DrawnMeasure → Arc → Option Piece → List Bridge
piece_between lengths a b ds arc None = []
piece_between lengths a b ds arc (Some piece) =
    arc_between lengths a b piece arc (event_at ds arc.from arc.first) (event_at ds arc.to arc.last)

-- the piece of an arc in the system of measures a to b - 1; ds are all measures of the voice
abbrev pub arc_in : List ℕ → ℕ → ℕ → List DrawnMeasure → Arc → List Bridge
arc_in lengths a b ds arc = piece_between lengths a b ds arc (piece_of arc a b)

abbrev pub arcs_between : List ℕ → ℕ → ℕ → List DrawnMeasure → List Arc → List Bridge
arcs_between lengths a b ds arcs = flat_map (arc_in lengths a b ds) arcs
