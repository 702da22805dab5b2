-- On which notes syllables are sung.
use Rattle.std.specs.{Prelude.{◌≡◌, ◌≤◌, ◌<◌, ℕ, ◌+◌, List, [], ◌∷◌, ◌++◌, nat_lt, if◌then◌else◌}, List.All}
use Rattle.mus_lyric.specs.declared.singing.NoteAt.{NoteAt}
use Rattle.mus_lyric.specs.declared.singing.Sung.{Sung}
use Rattle.mus_lyric.specs.declared.syllable.Syl.{Syl}
use Rattle.mus_lyric.specs.declared.syllable.Syl.TheVariants.{Print, Skip, Bar}

-- what a syllable or a skip puts on the note that it takes
abbrev pub with_sung : Syl → NoteAt → List Sung → List Sung
with_sung (Print text) note sung = record { event = note.event; text = text } ∷ sung
with_sung Skip note sung = sung
with_sung Bar note sung = sung

-- a syllable or a skip: both take a note
abbrev pub TakesNote : Syl → Type 0
TakesNote (Print text) = Unit {0}
TakesNote Skip = Unit {0}
TakesNote Bar = ⊥

abbrev pub AreBefore : ℕ → List NoteAt → Type 0
AreBefore count notes = All (λ n. n.measure < count) notes

-- a note is the first of those not yet taken whose measure is at least the count, and these other notes are left
pub record Takes (count : ℕ) (notes : List NoteAt) (note : NoteAt) (left : List NoteAt) : Type 0 where
  pub before : List NoteAt
  pub following : List NoteAt
  pub are : notes ≡ before ++ note ∷ following
  pub left_are : left ≡ before ++ following
  pub earlier : AreBefore count before
  pub reaches : count ≤ note.measure

-- Syllables sung on the notes not yet taken. The count is the measure of the last note taken, plus one for each bar
-- sign since. A syllable or skip that finds no note is dropped.
pub data Sings : ℕ → List NoteAt → List Syl → List Sung → Type 0 where
  ends : (count : ℕ) (notes : List NoteAt) → Sings count notes [] []
  bar : (count : ℕ) (notes : List NoteAt) (syls : List Syl) (sung : List Sung)
      → Sings (count + 1) notes syls sung → Sings count notes (Bar ∷ syls) sung
  takes : (count : ℕ) (notes : List NoteAt) (syl : Syl) (syls : List Syl) (note : NoteAt) (left : List NoteAt)
      (sung : List Sung)
      → TakesNote syl → Takes count notes note left → Sings note.measure left syls sung
      → Sings count notes (syl ∷ syls) (with_sung syl note sung)
  dropped : (count : ℕ) (notes : List NoteAt) (syl : Syl) (syls : List Syl) (sung : List Sung)
      → TakesNote syl → AreBefore count notes → Sings count notes syls sung → Sings count notes (syl ∷ syls) sung

-- the count begins at the measure of the first note
abbrev pub first_measure : List NoteAt → ℕ
first_measure [] = 0
first_measure (note ∷ notes) = note.measure

-- what is sung when the syllables of a line of words are aligned with the notes of a line of music
abbrev pub AreSungOn : List NoteAt → List Syl → List Sung → Type 0
AreSungOn notes syls sung = Sings (first_measure notes) notes syls sung

-- ---- what is sung as a list, between its definition and the code

-- the notes from the first one whose measure is at least the count
abbrev pub notes_from : ℕ → List NoteAt → List NoteAt
notes_from count [] = []
notes_from count (note ∷ notes) = if nat_lt note.measure count then notes_from count notes else note ∷ notes

abbrev pub on_first : (NoteAt → List NoteAt → List Sung) → List NoteAt → List Sung
on_first goes [] = []
on_first goes (note ∷ notes) = goes note notes

abbrev pub sung_from : List Syl → ℕ → List NoteAt → List Sung
sung_from [] count notes = []
sung_from (Print text ∷ syls) count notes =
    on_first (λ note left. record { event = note.event; text = text } ∷ sung_from syls note.measure left)
    (notes_from count notes)
sung_from (Skip ∷ syls) count notes = on_first (λ note left. sung_from syls note.measure left) (notes_from count notes)
sung_from (Bar ∷ syls) count notes = sung_from syls (count + 1) notes

unfoldable pub sung_on : List NoteAt → List Syl → List Sung
sung_on notes syls = sung_from syls (first_measure notes) notes
