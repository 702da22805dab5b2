-- The columns of a voice that has a staff of its own, system by system, defined by its score alone. What is in force
-- and the heads of the event before are carried along. The ties that end in the column of an event are those that
-- come from the event before it.
use Rattle.std.specs.{Prelude.{ℤ, Bool, true, false, if◌then◌else◌, List, [], ◌∷◌, ◌++◌, Option, Some, None}, List.find}
use Rattle.mus_units.specs.declared.{note.Bar.Bar, note.Head.Head, pitch.Clef.Clef}
use Rattle.mus_score.specs.declared.score.Event.{Event}
use Rattle.mus_score.specs.declared.score.Flat.{Flat}
use Rattle.mus_score.specs.declared.score.Measure.{Measure}
use Rattle.mus_score.specs.declared.score.Voice.{Voice}
use Rattle.mus_score.specs.GoodScore.{clef_at}
use Rattle.mus_score.specs.Times.{flats_of}
use Rattle.mus_onsets.specs.Keys.{has_features}
use Rattle.mus_arcs.specs.Arcs.{has_pitch}
use Rattle.mus_ink.specs.Notes.{dy_of}
use Rattle.mus_drawn.specs.declared.standing.StaffState.{StaffState}
use Rattle.mus_drawn.specs.Drawn.{standing_after, staff_state_after, standing_of}
use Rattle.ps_heard.specs.declared.column.HeardColumn.{HeardColumn}
use Rattle.ps_heard.specs.declared.column.Role.{Role}
use Rattle.law_voice_sound.specs.Noted.{bar_notes, change_notes, head_column_notes, head_notes, sign_notes}

-- the heights at which the ties from one event end at the heads of the next: each at the first of its letter and
-- octave
abbrev pub height_if : Clef → Option Head → List ℤ
height_if c None = []
height_if c (Some h) = dy_of c h ∷ []

abbrev pub tie_heights : Clef → List Head → List Head → List ℤ
tie_heights c [] hs = []
tie_heights c (g ∷ gs) hs = (if g.tied then height_if c (find (has_pitch g.pitch) hs) else []) ++ tie_heights c gs hs

-- a chord; the change before an event; the bar after a measure
abbrev pub chord_column : Role → Clef → List Head → List ℤ → HeardColumn
chord_column role c hs ties = record { leads = false; notes = sign_notes c hs ++ head_notes role c hs; ties = ties }

abbrev pub change_column : StaffState → Flat → HeardColumn
change_column now f = record {
  leads = false;
  notes = change_notes (clef_at now.clef f.event) now.key.signs f.event.changes.clef f.event.changes.key;
  ties = [];
}

abbrev pub bar_column : Bar → HeardColumn
bar_column b = record { leads = false; notes = bar_notes b; ties = [] }

-- an event after its graces
abbrev pub grace_columns : Clef → List Event → List HeardColumn
grace_columns c [] = []
grace_columns c (g ∷ gs) = chord_column Role.Grace c g.heads [] ∷ grace_columns c gs

abbrev pub event_columns : StaffState → List Head → Flat → List HeardColumn
event_columns now prev f =
    let c = clef_at now.clef f.event in
    grace_columns c f.graces ++ chord_column Role.Head c f.event.heads (tie_heights c prev f.event.heads) ∷ []

-- the head of a system shows the change before its first event
abbrev pub change_columns : Bool → StaffState → Flat → List HeardColumn
change_columns true now f = []
change_columns false now f = change_column now f ∷ []

abbrev pub heard_events : Bool → StaffState → List Head → List Flat → List HeardColumn
heard_events in_head now prev [] = []
heard_events in_head now prev (f ∷ fs) =
    (change_columns in_head now f ++ event_columns now prev f)
    ++ heard_events false (standing_after now f.event.changes) f.event.heads fs

-- the heads of the last event
abbrev pub last_event : List Head → List Flat → List Head
last_event prev [] = prev
last_event prev (f ∷ fs) = last_event f.event.heads fs

abbrev pub heard_measures : Bool → StaffState → List Head → List Measure → List HeardColumn
heard_measures in_head now prev [] = []
heard_measures in_head now prev (m ∷ ms) =
    (heard_events in_head now prev (flats_of m.body) ++ bar_column m.bar ∷ [])
    ++ heard_measures false (staff_state_after now (flats_of m.body)) (last_event prev (flats_of m.body)) ms

-- what a head shows: what is in force at the first event of its first measure
abbrev pub state_shown : StaffState → List Flat → StaffState
state_shown now [] = now
state_shown now (f ∷ fs) = standing_after now f.event.changes

abbrev pub shown_first : StaffState → List Measure → StaffState
shown_first now [] = now
shown_first now (m ∷ ms) = state_shown now (flats_of m.body)

abbrev pub head_column : StaffState → HeardColumn
head_column now = record { leads = true; notes = head_column_notes now.clef now.key.signs; ties = [] }

-- the bar before the first measure, if it has features
abbrev pub first_columns : Option Bar → List HeardColumn
first_columns None = []
first_columns (Some bar) = if has_features bar then bar_column bar ∷ [] else []

-- a system of some measures; `first` is the bar before them, if they are the first of the voice
abbrev pub heard_system : Option Bar → StaffState → List Head → List Measure → List HeardColumn
heard_system first now prev ms =
    head_column (shown_first now ms) ∷ first_columns first ++ heard_measures true now prev ms

-- what is in force after measures, and the heads of the last event
abbrev pub standing_through : StaffState → List Measure → StaffState
standing_through now [] = now
standing_through now (m ∷ ms) = standing_through (staff_state_after now (flats_of m.body)) ms

abbrev pub last_through : List Head → List Measure → List Head
last_through prev [] = prev
last_through prev (m ∷ ms) = last_through (last_event prev (flats_of m.body)) ms

-- system after system
abbrev pub systems_columns : Option Bar → StaffState → List Head → List (List Measure) → List HeardColumn
systems_columns first now prev [] = []
systems_columns first now prev (ms ∷ systems) =
    heard_system first now prev ms ++ systems_columns None (standing_through now ms) (last_through prev ms) systems

abbrev pub heard_voice : Voice → List (List Measure) → List HeardColumn
heard_voice v systems = systems_columns (Some v.first) (standing_of v) [] systems
