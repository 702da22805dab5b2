-- The words of a voice's events. Each row of the body has texts of `w:` lines, its verses, and notes of the voice; a
-- verse is sung on the notes of each row with the text that the row has for it.
use Rattle.std.specs.Prelude.{ℕ, ◌==◌, nat_lt, List, [], ◌++◌, map, filter, flat_map, find}
use Rattle.std.specs.Prelude.{length, slice_get, slice_index_or, ◌≡◌, ◌<◌, Option, Some, None, option_map}
use Rattle.std.specs.List.{All, prefix_len, range_with_len}
use Rattle.mus_lyric.specs.declared.singing.NoteAt.{NoteAt}
use Rattle.mus_lyric.specs.declared.singing.Sung.{Sung}
use Rattle.mus_lyric.specs.Syllables.{syllables_of}
use Rattle.mus_lyric.specs.Singing.{sung_on}
use Rattle.abc_words.specs.declared.verses.Verse.{Verse}
use Rattle.abc_words.specs.declared.verses.Verses.{Verses}
use Rattle.abc_words.specs.declared.music.SungNote.{SungNote}
use Rattle.abc_words.specs.declared.music.MusicRow.{MusicRow}
use Rattle.abc_words.specs.Verses.{rows_in, verse_count}

-- the row of a physical line: the number of rows that end before it
abbrev pub row_of : List ℕ → ℕ → ℕ
row_of ends line = prefix_len (λ e. nat_lt e line) ends

abbrev pub texts_on : ℕ → List Verse → List (List ℕ)
texts_on row verses = map (λ v. v.text) (filter (λ v. v.row == row) verses)

abbrev pub sung_note_at : SungNote → NoteAt
sung_note_at note = record { event = note.event; measure = note.measure }

abbrev pub notes_on : ℕ → List ℕ → List SungNote → List NoteAt
notes_on row ends notes = map sung_note_at (filter (λ n. row_of ends n.line == row) notes)

abbrev pub music_row : List Verse → List ℕ → List SungNote → ℕ → MusicRow
music_row verses ends notes row = record { texts = texts_on row verses; notes = notes_on row ends notes }

abbrev pub music_rows : Verses → List SungNote → List MusicRow
music_rows v notes = map (music_row v.list v.ends notes) (range_with_len 0 (rows_in v))

-- what is sung in a verse on a row: nothing if the row has no text for it
abbrev pub sung_with : List NoteAt → Option (List ℕ) → List Sung
sung_with notes None = []
sung_with notes (Some text) = sung_on notes (syllables_of text)

abbrev pub sung_in : ℕ → MusicRow → List Sung
sung_in verse row = sung_with row.notes (slice_get row.texts verse)

abbrev pub verse_sung : List MusicRow → ℕ → List Sung
verse_sung rows verse = flat_map (sung_in verse) rows

-- what is sung on an event
abbrev pub word_of : List Sung → ℕ → Option (List ℕ)
word_of sung event = option_map (λ s. s.text) (find (λ s. s.event == event) sung)

abbrev pub event_words : List MusicRow → ℕ → ℕ → List (Option (List ℕ))
event_words rows verses event = map (λ verse. word_of (verse_sung rows verse) event) (range_with_len 0 verses)

-- the words of that many events, each with one entry per verse
abbrev pub words_of_events : Verses → List SungNote → ℕ → List (List (Option (List ℕ)))
words_of_events v notes count = map (event_words (music_rows v notes) (verse_count v)) (range_with_len 0 count)

-- ---- the words, event by event
abbrev pub word_at : List (List (Option (List ℕ))) → ℕ → ℕ → Option (List ℕ)
word_at words event verse = slice_index_or (slice_index_or words event []) verse None

-- what is sung on a note in a verse, from the texts and the notes of the note's own row
abbrev pub own_word : Verses → List SungNote → SungNote → ℕ → Option (List ℕ)
own_word v notes note verse =
    word_of (sung_in verse (music_row v.list v.ends notes (row_of v.ends note.line))) note.event

-- no two notes belong to the same event
abbrev pub AreOfDistinctEvents : List SungNote → Type 0
AreOfDistinctEvents notes =
    (i j : ℕ) (c d : SungNote)
    → i < length notes → j < length notes → (slice_index_or notes i c).event ≡ (slice_index_or notes j d).event → i ≡ j

-- each note has its own words
abbrev pub HaveOwnWords : Verses → List SungNote → ℕ → List (List (Option (List ℕ))) → Type 0
HaveOwnWords v notes count words =
    AreOfDistinctEvents notes
    → (i verse : ℕ) (d : SungNote) → i < length notes → (slice_index_or notes i d).event < count → verse < verse_count v
    → word_at words (slice_index_or notes i d).event verse ≡ own_word v notes (slice_index_or notes i d) verse

-- an event without a note has no words
abbrev pub HasNoOtherWords : Verses → List SungNote → ℕ → List (List (Option (List ℕ))) → Type 0
HasNoOtherWords v notes count words =
    (event verse : ℕ) → All (λ n. n.event ≡ event → ⊥) notes → event < count → verse < verse_count v
    → word_at words event verse ≡ None

-- ---- rows while they are filled
abbrev pub no_music : MusicRow
no_music = record { texts = []; notes = [] }

abbrev pub row_with_texts : MusicRow → List (List ℕ) → MusicRow
row_with_texts row texts = record { texts = row.texts ++ texts; notes = row.notes }

abbrev pub with_notes : MusicRow → List NoteAt → MusicRow
with_notes row notes = record { texts = row.texts; notes = row.notes ++ notes }
