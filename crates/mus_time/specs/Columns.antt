-- The columns of drawn voices. A drawn event has its tick, and the part of the previous key that a change draws, so
-- its columns are determined without walking through what precedes its measure.
use Rattle.std.specs.Prelude.{ℕ, ◌+◌, Bool, true, false, nat_le, List, [], ◌∷◌, ◌++◌, length, slice_range}
use Rattle.{mus_units.specs.declared.note.Bar.{Bar}, mus_score.specs.{declared.score.Score.Score, Seats.is_lower}}
use Rattle.mus_onsets.specs.declared.keys.Class.{Class}
use Rattle.mus_onsets.specs.declared.keys.ColumnKey.{ColumnKey}
use Rattle.mus_onsets.specs.Keys.{bar_key, called_keys, event_keys, first_keys, further_keys, head_key, key_at, keys_by}
use Rattle.mus_drawn.specs.declared.drawn.{DrawnEvent.DrawnEvent, DrawnMeasure.DrawnMeasure, DrawnVoice.DrawnVoice}

-- the column of an event itself
abbrev pub note_key : ℕ → DrawnEvent → ColumnKey
note_key m e = key_at m e.tick Class.Note 0

-- whether an event that changes the key has key entries before it
abbrev pub has_old : DrawnEvent → Bool
has_old e = nat_le 1 (length e.old)

abbrev pub events_columns : ℕ → Bool → List DrawnEvent → List ColumnKey
events_columns m in_head [] = []
events_columns m in_head (e ∷ es) = event_keys m e.tick in_head (has_old e) e.flat ++ events_columns m false es

abbrev pub measures_columns : List ℕ → ℕ → Bool → List DrawnMeasure → List ColumnKey
measures_columns lengths m in_head [] = []
measures_columns lengths m in_head (d ∷ ds) =
    events_columns m in_head d.events ++ bar_key lengths m ∷ measures_columns lengths (m + 1) false ds

-- the columns before the measures, if the system begins with measure a
abbrev pub front_columns : Bool → ℕ → Bar → List ColumnKey
front_columns true a first = head_key a ∷ first_keys a first
front_columns false a first = []

-- measures a to b - 1 of a voice as if it had a staff for itself, in a system that begins with them or earlier
abbrev pub range_columns : Bool → List ℕ → ℕ → ℕ → DrawnVoice → List ColumnKey
range_columns begins lengths a b v =
    front_columns begins a v.first ++ measures_columns lengths a begins (slice_range v.measures a b)

abbrev pub voice_columns : List ℕ → ℕ → ℕ → DrawnVoice → List ColumnKey
voice_columns lengths a b v = range_columns true lengths a b v

-- the columns that it has on its staff
abbrev pub staff_columns : Bool → List ℕ → ℕ → ℕ → DrawnVoice → List ColumnKey
staff_columns begins lengths a b v = keys_by (is_lower v.seat) (range_columns begins lengths a b v)

-- the keys that the voices call for in measure m of a system that begins with it or began before
abbrev pub keys_called : Bool → Score → List ℕ → ℕ → List ColumnKey
keys_called true s lengths m = called_keys s lengths m (m + 1)
keys_called false s lengths m = further_keys s lengths m
