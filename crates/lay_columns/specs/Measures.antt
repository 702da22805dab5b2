-- The columns of one measure: in a system that begins with it, and in one that began before. Columns depend neither
-- on heights nor on the texts already in a column, so syllables and texts have a fixed place.
use Rattle.mus_laid.specs.Distances.{top_line}
use Rattle.std.specs.Prelude.{◌≡◌, ℕ, pos, ◌+◌, ◌-◌, ◌==◌, Bool, true, List, [], ◌∷◌, ◌++◌, drop, map, min}
use Rattle.std.specs.Prelude.{slice_get, Option, Some, None}
use Rattle.mus_score.specs.declared.score.Score.{Score}
use Rattle.mus_onsets.specs.declared.keys.Class.{Class}
use Rattle.mus_onsets.specs.declared.keys.ColumnKey.{ColumnKey}
use Rattle.mus_onsets.specs.declared.times.Timeline.{Timeline}
use Rattle.mus_onsets.specs.Keys.{AreKeys}
use Rattle.mus_laid.specs.declared.laid.Laid.{Laid}
use Rattle.mus_laid.specs.declared.laid.StaffMarks.{StaffMarks}
use Rattle.mus_words.specs.declared.texts.TextPlace.{TextPlace}
use Rattle.mus_drawn.specs.declared.drawn.DrawnEvent.{DrawnEvent}
use Rattle.mus_drawn.specs.declared.drawn.DrawnMeasure.{DrawnMeasure}
use Rattle.mus_drawn.specs.declared.drawn.DrawnVoice.{DrawnVoice}
use Rattle.mus_time.specs.Columns.{keys_called}
use Rattle.mus_slots.specs.Staff.{slots_laid}
use Rattle.mus_slots.specs.Voice.{range_slots}
use Rattle.mus_marks.specs.Events.{changes_nothing}
use Rattle.mus_marks.specs.System.{drawn_staves}
use Rattle.lay_reaches.specs.declared.column.Column.{Column}
use Rattle.lay_reaches.specs.Columns.{columns_of}

-- the place of words over the lines of the staff
abbrev pub fixed_place : TextPlace
fixed_place = record { low = pos 0; high = pos top_line; verses = 0; above = 0; below = 0 }

abbrev pub staff_of_columns : List Laid → StaffMarks
staff_of_columns marks = record { marks = marks; low = pos 0; high = pos top_line }

-- the parts of the voices of a staff, one after the other, each with its verses after those of the voices before it
abbrev pub parts_from : (ℕ → DrawnVoice → List Laid) → ℕ → List DrawnVoice → List Laid
parts_from part first [] = []
parts_from part first (v ∷ vs) = part first v ++ parts_from part (first + v.verses) vs

-- The marks in the columns of measures a to b - 1 of a voice. If the system begins with them: with its head and the
-- bar before the first measure. If the system began before: each event after its change and its graces, and the bars.
abbrev pub range_part : Bool → List ColumnKey → List ℕ → ℕ → ℕ → ℕ → DrawnVoice → List Laid
range_part begins keys lengths a b first v = slots_laid keys (Some fixed_place) (range_slots begins lengths a b first v)

abbrev pub range_staff : Bool → List ColumnKey → List ℕ → ℕ → ℕ → List DrawnVoice → StaffMarks
range_staff begins keys lengths a b voices =
    staff_of_columns (parts_from (range_part begins keys lengths a b) 0 voices)

-- of measure m alone
abbrev pub measure_staff : Bool → List ColumnKey → List ℕ → ℕ → List DrawnVoice → StaffMarks
measure_staff begins keys lengths m = range_staff begins keys lengths m (m + 1)

-- whether the first event of measure m of a voice, if there is one, changes neither clef nor key nor meter
abbrev pub first_plain : List DrawnEvent → Bool
first_plain [] = true
first_plain (e ∷ es) = changes_nothing e.flat.event.changes

abbrev pub is_plain : Option DrawnMeasure → Bool
is_plain None = true
is_plain (Some d) = first_plain d.events

abbrev pub begins_plain : ℕ → DrawnVoice → Bool
begins_plain m v = is_plain (slice_get v.measures m)

abbrev pub keys_in : List Column → List ColumnKey
keys_in columns = map (λ c. c.key) columns

-- the columns of measure m in a system that begins with it or began before;
-- verses are the numbers of verses of the staves
pub record AreMeasureColumns (begins : Bool) (s : Score) (t : Timeline) (m : ℕ) (verses : List ℕ)
    (columns : List Column) : Type 0 where
  pub keys : AreKeys (keys_in columns) (keys_called begins s t.lengths m)
  pub value : columns
      ≡ columns_of (keys_in columns) (map (measure_staff begins (keys_in columns) t.lengths m) (drawn_staves s))
      t.lengths verses

-- those of measure m in a system that begins with the measure before it, if there is one: either its own, or those in
-- a system that begins with m, without the head
abbrev pub further_of : ℕ → List Column → Option (List Column) → List Column
further_of m begun None = drop (min m 1) begun
further_of m begun (Some own) = own

abbrev pub AreFurther : Score → Timeline → ℕ → List ℕ → Option (List Column) → Type 0
AreFurther s t m verses own =
    (begun : List Column)
    → AreMeasureColumns true s t m verses begun → AreMeasureColumns ((m - 1) == m) s t m verses (further_of m begun own)

-- the last column is that of a bar
pub record EndWithBar (columns : List Column) : Type 0 where
  pub prefix : List Column
  pub last : Column
  pub parts : columns ≡ prefix ++ last ∷ []
  pub bar : last.key.class ≡ Class.Bar
