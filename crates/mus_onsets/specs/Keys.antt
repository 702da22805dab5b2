-- The keys of a system's columns: those that its voices call for, each once, rising.
use Rattle.std.specs.Prelude.{ℕ, ◌+◌, ◌≤◌, ◌<◌, Bool, true, false, not, ◌&&◌, ◌||◌, ◌==◌, nat_le, is_some}
use Rattle.std.specs.Prelude.{if◌then◌else◌, List, [], ◌∷◌, ◌++◌, length, take, filter, flat_map, slice_range}
use Rattle.std.specs.Prelude.{slice_index, Contains, Option, Some, None}
use Rattle.mus_units.specs.{declared.key.Key.Key, declared.key.Meter.Meter, declared.note.Bar.Bar}
use Rattle.mus_score.specs.declared.score.Changes.{Changes}
use Rattle.mus_score.specs.declared.score.Event.{Event}
use Rattle.mus_score.specs.declared.score.Flat.{Flat}
use Rattle.mus_score.specs.declared.score.Measure.{Measure}
use Rattle.mus_score.specs.declared.score.Score.{Score}
use Rattle.mus_score.specs.declared.score.Voice.{Voice}
use Rattle.mus_score.specs.Good.{total_ticks}
use Rattle.mus_score.specs.Seats.{is_lower}
use Rattle.mus_score.specs.Times.{flats_of}
use Rattle.mus_onsets.specs.{declared.keys.Class.Class, declared.keys.ColumnKey.ColumnKey, Order.Rises}

abbrev pub key_at : ℕ → ℕ → Class → ℕ → ColumnKey
key_at m tick class place = record { measure = m; tick = tick; class = class; place = place }

-- the column that begins a system at measure a, and that of the bar at the end of a measure
abbrev pub head_key : ℕ → ColumnKey
head_key a = key_at a 0 Class.Head 0

abbrev pub bar_key : List ℕ → ℕ → ColumnKey
bar_key lengths m = key_at m (slice_index lengths m) Class.Bar 0

abbrev pub has_entries : Key → Bool
has_entries k = nat_le 1 (length k.signs)

-- whether the key in force after a change has entries
abbrev pub signed_after : Bool → Option Key → Bool
signed_after signed None = signed
signed_after signed (Some k) = has_entries k

-- a change of key draws the new entries, or a natural for each old one
abbrev pub key_has_mark : Bool → Option Key → Bool
key_has_mark signed None = false
key_has_mark signed (Some k) = signed || has_entries k

abbrev pub meter_has_mark : Option Meter → Bool
meter_has_mark None = false
meter_has_mark (Some Meter.Free) = false
meter_has_mark (Some _) = true

-- whether a change draws anything, given whether the key before it has entries
abbrev pub change_has_mark : Bool → Changes → Bool
change_has_mark signed ch = is_some ch.clef || key_has_mark signed ch.key || meter_has_mark ch.meter

abbrev pub has_features : Bar → Bool
has_features b = b.end || b.start || b.last || b.initial || b.double || b.dotted || b.unseen

-- a change that the head draws has no column of its own
abbrev pub change_keys : ℕ → ℕ → Bool → Bool → Changes → List ColumnKey
change_keys m tick in_head signed ch =
    if not in_head && change_has_mark signed ch then key_at m tick Class.Change 0 ∷ [] else []

abbrev pub grace_keys : ℕ → ℕ → ℕ → List Event → List ColumnKey
grace_keys m tick i [] = []
grace_keys m tick i (g ∷ gs) = key_at m tick Class.Grace i ∷ grace_keys m tick (i + 1) gs

-- an event, after its change and its graces
abbrev pub event_keys : ℕ → ℕ → Bool → Bool → Flat → List ColumnKey
event_keys m tick in_head signed f =
    change_keys m tick in_head signed f.event.changes ++ grace_keys m tick 0 f.graces ++ key_at m tick Class.Note 0 ∷ []

-- the events of a measure in turn, each with those before it; the head draws the change before the first event of the
-- system's first measure
abbrev pub events_keys : ℕ → Bool → Bool → List Flat → List Flat → List ColumnKey
events_keys m in_head signed before [] = []
events_keys m in_head signed before (f ∷ following) =
    event_keys m (total_ticks before) in_head signed f
    ++ events_keys m false (signed_after signed f.event.changes.key) (f ∷ before) following

abbrev pub signed_through : Bool → List Flat → Bool
signed_through signed [] = signed
signed_through signed (f ∷ fs) = signed_through (signed_after signed f.event.changes.key) fs

-- measures from number m on, each followed by its bar
abbrev pub measures_keys : List ℕ → ℕ → Bool → Bool → List Measure → List ColumnKey
measures_keys lengths m in_head signed [] = []
measures_keys lengths m in_head signed (x ∷ xs) =
    events_keys m in_head signed [] (flats_of x.body) ++ key_at m (slice_index lengths m) Class.Bar 0
    ∷ measures_keys lengths (m + 1) false (signed_through signed (flats_of x.body)) xs

abbrev pub signed_from : Bool → List Measure → Bool
signed_from signed [] = signed
signed_from signed (m ∷ ms) = signed_from (signed_through signed (flats_of m.body)) ms

-- the bar before the first measure
abbrev pub first_keys : ℕ → Bar → List ColumnKey
first_keys a bar = if (a == 0) && has_features bar then key_at 0 0 Class.First 0 ∷ [] else []

-- whether the key in force before measure a has entries
abbrev pub signed_at : ℕ → Voice → Bool
signed_at a v = signed_from (has_entries v.key) (take a v.measures)

abbrev pub all_keys : List ℕ → ℕ → ℕ → Voice → List ColumnKey
all_keys lengths a b v =
    key_at a 0 Class.Head 0 ∷ first_keys a v.first
    ++ measures_keys lengths a true (signed_at a v) (slice_range v.measures a b)

-- each voice of a staff has its own columns for its notes and graces; the first voice draws everything else of the
-- staff
abbrev pub is_for_each : ColumnKey → Bool
is_for_each key = is_own_class key.class
  where
    is_own_class : Class → Bool
    is_own_class Class.Grace = true
    is_own_class Class.Note = true
    is_own_class _ = false

abbrev pub keys_by : Bool → List ColumnKey → List ColumnKey
keys_by true keys = filter is_for_each keys
keys_by false keys = keys

abbrev pub voice_keys : List ℕ → ℕ → ℕ → Voice → List ColumnKey
voice_keys lengths a b v = keys_by (is_lower v.seat) (all_keys lengths a b v)

-- what the voices call for in measures a to b - 1, voice by voice
abbrev pub called_keys : Score → List ℕ → ℕ → ℕ → List ColumnKey
called_keys s lengths a b = flat_map (voice_keys lengths a b) s.voices

-- measure m of a voice, in a system that begins before it
abbrev pub measure_keys : List ℕ → ℕ → Voice → List ColumnKey
measure_keys lengths m v =
    keys_by (is_lower v.seat) (measures_keys lengths m false (signed_at m v) (slice_range v.measures m (m + 1)))

-- what the voices call for in measure m of a system that begins before it, voice by voice
abbrev pub further_keys : Score → List ℕ → ℕ → List ColumnKey
further_keys s lengths m = flat_map (measure_keys lengths m) s.voices

-- the same keys, each once, rising: exactly one such list exists
pub record AreKeys (keys called : List ColumnKey) : Type 0 where
  pub rise : Rises keys
  pub all : (k : ColumnKey) → Contains called k → Contains keys k
  pub only : (k : ColumnKey) → Contains keys k → Contains called k

-- a place in measures a to b - 1, not after the end of its measure
pub record IsInSystem (lengths : List ℕ) (a b : ℕ) (k : ColumnKey) : Type 0 where
  pub from : a ≤ k.measure
  pub to : k.measure < b
  pub within : k.tick ≤ slice_index lengths k.measure
