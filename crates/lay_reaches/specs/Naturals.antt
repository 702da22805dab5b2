-- The natural length of the spring after a column. It depends on the ticks from a note column to the next note column
-- of its measure, or else to the measure's end. Other columns have none.
use Rattle.std.specs.Prelude.{ℕ, ◌*◌, ◌/◌, ◌-◌, Bool, true, false, ◌&&◌, ◌==◌, nat_le, if◌then◌else◌, List, Option}
use Rattle.std.specs.Prelude.{Some, None, unwrap_or, slice_get}
use Rattle.std.specs.List.{find}
use Rattle.mus_units.specs.Value.{whole_note}
use Rattle.mus_onsets.specs.declared.keys.Class.{Class}
use Rattle.mus_onsets.specs.declared.keys.ColumnKey.{ColumnKey}
use Rattle.lay_reaches.specs.Distances.{breve_length, whole_length, half_length, quarter_length, eighth_length}
use Rattle.lay_reaches.specs.Distances.{length_of_16th, length_of_32nd, length_of_64th, least_length}

-- that of the greatest row that isn't above the ticks
abbrev pub natural_for : ℕ → ℕ
natural_for ticks =
    if nat_le (2 * whole_note) ticks then breve_length else
    (if nat_le whole_note ticks then whole_length else
    (if nat_le (whole_note / 2) ticks then half_length else
    (if nat_le (whole_note / 4) ticks then quarter_length else
    (if nat_le (whole_note / 8) ticks then eighth_length else
    (if nat_le (whole_note / 16) ticks then length_of_16th else
    (if nat_le (whole_note / 32) ticks then length_of_32nd else
    (if nat_le (whole_note / 64) ticks then length_of_64th else least_length)))))))

abbrev pub is_note_key : ColumnKey → Bool
is_note_key key = is_note_class key.class
  where
    is_note_class : Class → Bool
    is_note_class Class.Note = true
    is_note_class _ = false

abbrev pub length_of_measure : List ℕ → ℕ → ℕ
length_of_measure lengths measure = unwrap_or (slice_get lengths measure) 0

-- a note column of a measure
abbrev pub is_note_of : ℕ → ColumnKey → Bool
is_note_of measure key = is_note_key key && (key.measure == measure)

-- the tick of the next note column of a measure, or else the measure's end
abbrev pub tick_or_end : ℕ → Option ColumnKey → List ℕ → ℕ
tick_or_end measure None lengths = length_of_measure lengths measure
tick_or_end measure (Some next) lengths = next.tick

-- of a key, given the keys after it
abbrev pub natural_of : ColumnKey → List ColumnKey → List ℕ → ℕ
natural_of key following lengths =
    if is_note_key key
    then natural_for (tick_or_end key.measure (find (is_note_of key.measure) following) lengths - key.tick)
    else 0
