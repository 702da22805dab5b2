-- The slots of a voice in a system: what it has in each of its columns, in the order of the score. The head, the bar
-- before the first measure, changes and bars are those of the first voice of a staff.
use Rattle.std.specs.Prelude.{ℕ, ◌+◌, Bool, not, ◌&&◌, ◌||◌, ◌==◌, true, false, if◌then◌else◌, List, [], ◌∷◌, ◌++◌, map}
use Rattle.std.specs.Prelude.{slice_range, Option, Some, None}
use Rattle.mus_units.specs.declared.key.Meter.{Meter}
use Rattle.mus_units.specs.declared.note.Bar.{Bar}
use Rattle.mus_units.specs.declared.pitch.Clef.{Clef}
use Rattle.mus_score.specs.declared.score.Event.{Event}
use Rattle.mus_score.specs.declared.score.Flat.{Flat}
use Rattle.mus_score.specs.declared.score.Seat.{Seat}
use Rattle.mus_score.specs.Seats.{is_lower}
use Rattle.mus_onsets.specs.declared.keys.Class.{Class}
use Rattle.mus_onsets.specs.declared.keys.ColumnKey.{ColumnKey}
use Rattle.mus_onsets.specs.Keys.{bar_key, change_has_mark, has_features, head_key, key_at}
use Rattle.mus_stems.specs.declared.plans.StemPlan.{StemPlan}
use Rattle.mus_laid.specs.declared.drawn.LaneInk.{LaneInk}
use Rattle.mus_ink.specs.declared.graces.Group.{Group}
use Rattle.mus_ink.specs.Bars.{bar_marks}
use Rattle.mus_ink.specs.Changes.{change_marks, head_marks}
use Rattle.mus_ink.specs.Decos.{note_marks}
use Rattle.mus_ink.specs.Graces.{grace_marks, group_of}
use Rattle.mus_words.specs.Texts.{texts_above, texts_below}
use Rattle.mus_drawn.specs.declared.drawn.DrawnEvent.{DrawnEvent}
use Rattle.mus_drawn.specs.declared.drawn.DrawnMeasure.{DrawnMeasure}
use Rattle.mus_drawn.specs.declared.drawn.DrawnVoice.{DrawnVoice}
use Rattle.mus_drawn.specs.declared.drawn.SystemOpening.{SystemOpening}
use Rattle.mus_drawn.specs.Drawn.{raise_of}
use Rattle.mus_time.specs.Columns.{has_old, note_key}
use Rattle.mus_bridges.specs.Bridges.{bridges_of}
use Rattle.mus_slots.specs.declared.slots.Slot.{Slot}
use Rattle.mus_slots.specs.declared.slots.VoiceSlots.{VoiceSlots}
use Rattle.mus_slots.specs.declared.slots.Written.{Written}

-- a slot without words
abbrev pub nothing : Written
nothing = record { first = 0; syllables = []; above = []; below = [] }

abbrev pub slot : ColumnKey → List LaneInk → Slot
slot key drawn = record { key = key; drawn = drawn; written = nothing }

abbrev pub slot_if : Bool → ColumnKey → List LaneInk → List Slot
slot_if b key drawn = if b then slot key drawn ∷ [] else []

-- the change before an event, unless the head or the voice above has drawn it; a change without marks has no slot
abbrev pub change_slots : ℕ → Bool → DrawnEvent → List Slot
change_slots m drawn e =
    slot_if (not drawn && change_has_mark (has_old e) e.flat.event.changes) (key_at m e.tick Class.Change 0)
    (change_marks e.clef e.old e.flat.event.changes)

-- graces from the i-th on; the first of a group has its slash
abbrev pub grace_slots : ℕ → ℕ → Clef → Group → ℕ → List Event → List Slot
grace_slots m tick clef group i [] = []
grace_slots m tick clef group i (g ∷ gs) =
    slot (key_at m tick Class.Grace i) (grace_marks clef group (i == 0) g) ∷ grace_slots m tick clef group (i + 1) gs

-- the graces of an event
abbrev pub group_slots : ℕ → DrawnEvent → List Slot
group_slots m e = grace_slots m e.tick e.clef (group_of e.clef e.flat.graces e.flat.slash) 0 e.flat.graces

-- the words of an event, for a voice whose first verse has number `first` on its staff
abbrev pub written_of : ℕ → Flat → Written
written_of first f =
    record { first = first; syllables = f.event.words; above = texts_above f; below = texts_below f }

-- before and after are the levels of the events beside it in its beam, 0 for none
abbrev pub event_marks : ℕ → ℕ → DrawnEvent → List LaneInk
event_marks before after e = note_marks e.clef (raise_of e.seat) e.flat.event e.plan before after

abbrev pub note_slot : ℕ → ℕ → ℕ → ℕ → DrawnEvent → Slot
note_slot first m before after e =
    record { key = note_key m e; drawn = event_marks before after e; written = written_of first e.flat }

abbrev pub event_slots : ℕ → ℕ → Bool → ℕ → ℕ → DrawnEvent → List Slot
event_slots first m in_head before after e =
    change_slots m (in_head || is_lower e.seat) e ++ group_slots m e ++ note_slot first m before after e ∷ []

-- the levels of an event if its beam is that of the plan
abbrev pub levels_in : StemPlan → ℕ → ℕ → ℕ
levels_in plan group flags = if group == plan.group then flags else 0

abbrev pub levels_after : StemPlan → List DrawnEvent → ℕ
levels_after plan [] = 0
levels_after plan (e ∷ es) = levels_in plan e.plan.group e.plan.flags

-- group and flags are those of the event before these, 0 if there is none
abbrev pub events_slots : ℕ → ℕ → Bool → ℕ → ℕ → List DrawnEvent → List Slot
events_slots first m in_head group flags [] = []
events_slots first m in_head group flags (e ∷ es) =
    event_slots first m in_head (levels_in e.plan group flags) (levels_after e.plan es) e
    ++ events_slots first m false e.plan.group e.plan.flags es

-- the bar after a measure
abbrev pub bar_slots : List ℕ → ℕ → DrawnMeasure → List Slot
bar_slots lengths m d = slot_if (not (is_lower d.seat)) (bar_key lengths m) (bar_marks d.bar)

-- measures from number m on, each followed by its bar; the head draws the change before the first event of the first
abbrev pub measures_slots : ℕ → List ℕ → ℕ → Bool → List DrawnMeasure → List Slot
measures_slots first lengths m in_head [] = []
measures_slots first lengths m in_head (d ∷ ds) =
    (events_slots first m in_head 0 0 d.events ++ bar_slots lengths m d)
    ++ measures_slots first lengths (m + 1) false ds

-- the meter is drawn where the voice begins and where it changes
abbrev pub meter_shown : ℕ → SystemOpening → Option Meter
meter_shown a o = if (a == 0) || o.anew then Some o.meter else None

-- the head, drawn from the first of the system's measures
abbrev pub head_slots : ℕ → List DrawnMeasure → List Slot
head_slots a [] = []
head_slots a (d ∷ ds) =
    slot_if (not (is_lower d.seat)) (head_key a)
    (head_marks d.opening.clef d.opening.key.signs (meter_shown a d.opening))

-- the bar before the first measure, if it has features
abbrev pub first_slots : ℕ → Seat → Bar → List Slot
first_slots a seat bar =
    slot_if (not (is_lower seat) && (a == 0) && has_features bar) (key_at 0 0 Class.First 0) (bar_marks bar)

abbrev pub columns_slots : ℕ → List ℕ → ℕ → Seat → Bar → List DrawnMeasure → List Slot
columns_slots first lengths a seat bar ds =
    head_slots a ds ++ first_slots a seat bar ++ measures_slots first lengths a true ds

-- the slots of a voice in measures a to b - 1
abbrev pub voice_slots : ℕ → List ℕ → ℕ → ℕ → DrawnVoice → List Slot
voice_slots first lengths a b v = columns_slots first lengths a v.seat v.first (slice_range v.measures a b)

-- the same if the system begins with measure a, or began before
abbrev pub range_slots : Bool → List ℕ → ℕ → ℕ → ℕ → DrawnVoice → List Slot
range_slots true lengths a b first v = voice_slots first lengths a b v
range_slots false lengths a b first v = measures_slots first lengths a false (slice_range v.measures a b)

abbrev pub slots_of_voice : ℕ → List ℕ → ℕ → ℕ → DrawnVoice → VoiceSlots
slots_of_voice first lengths a b v =
    record { slots = voice_slots first lengths a b v; bridges = bridges_of lengths a b v }

-- the voices of a staff, whose verses are numbered from voice to voice
abbrev pub slots_of_voices : ℕ → List ℕ → ℕ → ℕ → List DrawnVoice → List VoiceSlots
slots_of_voices first lengths a b [] = []
slots_of_voices first lengths a b (v ∷ vs) =
    slots_of_voice first lengths a b v ∷ slots_of_voices (first + v.verses) lengths a b vs

abbrev pub keys_of : List Slot → List ColumnKey
keys_of slots = map (λ s. s.key) slots
