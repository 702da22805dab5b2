-- The score of a body, built from its voices.
use Rattle.std.specs.Prelude.{ℕ, ◌+◌, List, [], ◌∷◌, ◌++◌, map, fold, max, reverse, Bool, true, false, Option}
use Rattle.mus_units.specs.declared.note.Head.{Head}
use Rattle.mus_score.specs.declared.score.Measure.{Measure}
use Rattle.mus_score.specs.declared.score.Voice.{Voice}
use Rattle.mus_score.specs.declared.score.Score.{Score}
use Rattle.mus_score.specs.Seats.{usual_gap}
use Rattle.mus_score.specs.declared.score.Seat.{Seat}
use Rattle.abc_fields.specs.declared.header.Header.{Header}
use Rattle.abc_steps.specs.declared.step.BodyItem.{BodyItem}
use Rattle.abc_steps.specs.Counts.{measures_begun}
use Rattle.abc_signs.specs.{declared.written.WrittenEvent.WrittenEvent, declared.written.TreeItem.TreeItem, Signs.signs}
use Rattle.abc_events.specs.{Bars.bars_of, Bars.bar_before_events, Bars.forced_bars, Measures.measures_of}
use Rattle.abc_words.specs.declared.music.SungNote.{SungNote}
use Rattle.abc_words.specs.declared.verses.Verses.{Verses}
use Rattle.abc_words.specs.Verses.{verse_count}
use Rattle.abc_words.specs.Words.{words_of_events}
use Rattle.abc_score.specs.declared.voices.ReadVoice.{ReadVoice}
use Rattle.abc_score.specs.Voices.{voices_read}

-- Words are sung on written events with heads, each numbered among all written events of its voice.
abbrev pub note_if : List Head → ℕ → WrittenEvent → List SungNote
note_if [] event w = []
note_if (h ∷ hs) event w = record { event = event; line = w.line; measure = w.measure } ∷ []

abbrev pub sung_notes_from : ℕ → List TreeItem → List SungNote
sung_notes_from event [] = []
sung_notes_from event (TreeItem.Event w waiting ∷ signs) = note_if w.heads event w ++ sung_notes_from (event + 1) signs
sung_notes_from event (TreeItem.Opens measure p q r ∷ signs) = sung_notes_from event signs

abbrev pub event_count : List TreeItem → ℕ
event_count [] = 0
event_count (TreeItem.Event w waiting ∷ signs) = 1 + event_count signs
event_count (TreeItem.Opens measure p q r ∷ signs) = event_count signs

-- the words of each written event, one entry per verse
unfoldable pub sung_words : Verses → List TreeItem → List (List (Option (List ℕ)))
sung_words verses signs = words_of_events verses (sung_notes_from 0 signs) (event_count signs)

unfoldable pub written_measures : ℕ → ReadVoice → List Measure
written_measures n v =
    let all = signs v.first [] v.steps in measures_of all (sung_words v.verses all) (bars_of v.steps n)

-- a voice with n measures: its own, and empty ones after them
unfoldable pub voice_by_header : Header → ℕ → ReadVoice → Voice
voice_by_header header n v = record {
  id = v.start.id;
  seat = Seat.Alone;
  gap = usual_gap;
  clef = v.start.clef;
  key = header.key;
  meter = header.meter;
  stem = v.start.stem;
  verses = verse_count v.verses;
  first = bar_before_events v.steps;
  measures = written_measures n v;
}

-- as many measures as the voice with the most has of its own
abbrev pub own_measures : ReadVoice → ℕ
own_measures v = measures_begun (reverse v.steps)

abbrev pub most_measures : List ReadVoice → ℕ
most_measures voices = fold max 0 (map own_measures voices)

-- line breaks in the first voice force its bars; with `flow` none is forced
abbrev pub forced_in : List ReadVoice → ℕ → List ℕ
forced_in [] n = []
forced_in (v ∷ voices) n = forced_bars v.steps n

abbrev pub forced_of : Bool → List ReadVoice → ℕ → List ℕ
forced_of true voices n = []
forced_of false voices n = forced_in voices n

unfoldable pub score_with : Header → Bool → List ReadVoice → Score
score_with header flow voices = record {
  voices = map (voice_by_header header (most_measures voices)) voices;
  measures = most_measures voices;
  forced = forced_of flow voices (most_measures voices);
  spread = header.spread;
}

abbrev pub score_of : Header → List BodyItem → Bool → Score
score_of header items flow = score_with header flow (voices_read header items)
