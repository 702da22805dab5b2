-- If notes have events of their own, the words of an event are those of its own row.
use Rattle.std.proofs.Common.{◌≡◌, ℕ, zero, suc, ◌+◌, ◌<◌, ◌≤◌, List, [], ◌∷◌, ◌++◌, Bool, true, false, cond, length}
use Rattle.std.proofs.Common.{map, get_or, slice_index_or, inl, inr, refl, sym, ap, ◌∙◌, arith}
use Rattle.std.proofs.Common.{nat_lt, slice_get}
use Rattle.std.proofs.lemmas.Bool.{cases_lt, eqb-true, ne_eqb}
use Rattle.std.proofs.lemmas.List.{get_or_default}
use Rattle.std.proofs.lemmas.List.Elements.{All-nil, All-cons, All-head, All-tail}
use Rattle.std.proofs.lemmas.List.FromFn.{get_or-map-range_with_len}
use Rattle.std.specs.Prelude.{Option, Some, None, filter, ◌==◌, ◌⊎◌}
use Rattle.std.specs.List.{All, range_with_len}
use Rattle.std.specs.Option.{option_or}
use Rattle.mus_lyric.specs.declared.singing.NoteAt.{NoteAt}
use Rattle.mus_lyric.specs.declared.singing.Sung.{Sung}
use Rattle.mus_lyric.specs.declared.syllable.Syl.{Syl}
use Rattle.mus_lyric.specs.declared.syllable.Syl.TheVariants.{Print, Skip, Bar}
use Rattle.mus_lyric.specs.Syllables.{syllables_of}
use Rattle.mus_lyric.specs.Singing.{first_measure, notes_from, on_first, sung_from, sung_on}
use Rattle.abc_words.specs.Words.{AreOfDistinctEvents, event_words, music_row, music_rows, sung_note_at}
use Rattle.abc_words.specs.Words.{notes_on, own_word, row_of, sung_in, sung_with, verse_sung}
use Rattle.abc_words.specs.Words.{word_at, word_of, words_of_events}
use Rattle.abc_words.specs.declared.music.MusicRow.{MusicRow}
use Rattle.abc_words.specs.declared.music.SungNote.{SungNote}
use Rattle.abc_words.specs.declared.verses.Verses.{Verses}
use Rattle.abc_words.specs.Verses.{rows_in, verse_count}
use Rattle.abc_words.proofs.Lines.{row_of_within}
use Rattle.abc_words.proofs.WordLaws.{or_none}

-- notes none of which is this event's
abbrev IsFree : ℕ → List NoteAt → Type 0
IsFree event notes = All (λ n. n.event ≡ event → ⊥) notes

free_from : (count event : ℕ) (notes : List NoteAt) → IsFree event notes → IsFree event (notes_from count notes)
free_from count event [] free = free
free_from count event (n ∷ notes) free =
    by_test (nat_lt n.measure count)
    (free_from count event notes (All-tail (λ (m : NoteAt). m.event ≡ event → ⊥) n notes free)) where
      by_test : (b : Bool)
          → IsFree event (notes_from count notes) → IsFree event (cond b (notes_from count notes) (n ∷ notes))
      by_test true rest = rest
      by_test false rest = free

-- nothing is sung on an event that has no note
silent_print : (text : List ℕ) (event : ℕ) (goes : ℕ → List NoteAt → List Sung) (notes : List NoteAt)
    → IsFree event notes
    → ((count : ℕ) (left : List NoteAt) → IsFree event left → word_of (goes count left) event ≡ None)
    → word_of (on_first (λ note left. record { event = note.event; text = text } ∷ goes note.measure left) notes) event
    ≡ None
silent_print text event goes [] free rest = refl
silent_print text event goes (n ∷ notes) free rest =
    rw (ne_eqb n.event event (All-head (λ (m : NoteAt). m.event ≡ event → ⊥) n notes free))
    (rest n.measure notes (All-tail (λ (m : NoteAt). m.event ≡ event → ⊥) n notes free))

silent_skip : (event : ℕ) (goes : ℕ → List NoteAt → List Sung) (notes : List NoteAt) → IsFree event notes
    → ((count : ℕ) (left : List NoteAt) → IsFree event left → word_of (goes count left) event ≡ None)
    → word_of (on_first (λ note left. goes note.measure left) notes) event ≡ None
silent_skip event goes [] free rest = refl
silent_skip event goes (n ∷ notes) free rest =
    rest n.measure notes (All-tail (λ (m : NoteAt). m.event ≡ event → ⊥) n notes free)

silent_from : (syls : List Syl) (count event : ℕ) (notes : List NoteAt)
    → IsFree event notes → word_of (sung_from syls count notes) event ≡ None
silent_from [] count event notes free = refl
silent_from (Print text ∷ syls) count event notes free =
    silent_print text event (sung_from syls) (notes_from count notes) (free_from count event notes free)
    (λ c left f. silent_from syls c event left f)
silent_from (Skip ∷ syls) count event notes free =
    silent_skip event (sung_from syls) (notes_from count notes) (free_from count event notes free)
    (λ c left f. silent_from syls c event left f)
silent_from (Bar ∷ syls) count event notes free = silent_from syls (count + 1) event notes free

silent : (event : ℕ) (notes : List NoteAt) (text : Option (List ℕ))
    → IsFree event notes → word_of (sung_with notes text) event ≡ None
unfolding sung_on
silent event notes None free = refl
silent event notes (Some text) free = silent_from (syllables_of text) (first_measure notes) event notes free

-- notes of an event are only on this row
abbrev StandOn : List ℕ → ℕ → ℕ → List SungNote → Type 0
StandOn ends event row notes = All (λ (n : SungNote). n.event ≡ event → row_of ends n.line ≡ row) notes

free_elsewhere : (ends : List ℕ) (event row other : ℕ) (notes : List SungNote)
    → StandOn ends event row notes → (other ≡ row → ⊥) → IsFree event (notes_on other ends notes)
free_elsewhere ends event row other [] stand apart = All-nil (λ (m : NoteAt). m.event ≡ event → ⊥)
free_elsewhere ends event row other (n ∷ notes) stand apart =
    by_test (row_of ends n.line == other) refl
    (free_elsewhere ends event row other notes
    (All-tail (λ (m : SungNote). m.event ≡ event → row_of ends m.line ≡ row) n notes stand) apart) where
      by_test : (b : Bool) → (row_of ends n.line == other) ≡ b → IsFree event (notes_on other ends notes)
          → IsFree event
          (map sung_note_at
          (cond b (n ∷ filter (λ m. row_of ends m.line == other) notes)
          (filter (λ m. row_of ends m.line == other) notes)))
      by_test true here rest =
          All-cons (λ (m : NoteAt). m.event ≡ event → ⊥) (sung_note_at n) (notes_on other ends notes)
          (λ is.
          apart (sym (eqb-true (row_of ends n.line) other here)
          ∙ All-head (λ (m : SungNote). m.event ≡ event → row_of ends m.line ≡ row) n notes stand is))
          rest
      by_test false here rest = rest

word_both : (one other : List Sung) (event : ℕ)
    → word_of (one ++ other) event ≡ option_or (word_of one event) (word_of other event)
word_both [] other event = refl
word_both (s ∷ one) other event = by_test (s.event == event) refl (word_both one other event) where
  by_test : (b : Bool) → (s.event == event) ≡ b
      → word_of (one ++ other) event ≡ option_or (word_of one event) (word_of other event)
      → word_of (s ∷ one ++ other) event ≡ option_or (word_of (s ∷ one) event) (word_of other event)
  by_test true here rest = rw here refl
  by_test false here rest = rw here rest

-- rows from one on, all but one of them silent
all_silent : (rows : ℕ → MusicRow) (verse event from n : ℕ)
    → ((row : ℕ) → from ≤ row → word_of (sung_in verse (rows row)) event ≡ None)
    → word_of (verse_sung (map rows (range_with_len from n)) verse) event ≡ None
all_silent rows verse event from zero none = refl
all_silent rows verse event from (suc n) none =
    word_both (sung_in verse (rows from)) (verse_sung (map rows (range_with_len (from + 1) n)) verse) event
    ∙ (ap (λ w. option_or w (word_of (verse_sung (map rows (range_with_len (from + 1) n)) verse) event))
    (none from (omega arith))
    ∙ all_silent rows verse event (from + 1) n (λ row le. none row (omega arith)))

one_sings : (rows : ℕ → MusicRow) (verse event own from n : ℕ)
    → ((row : ℕ) → (row ≡ own → ⊥) → word_of (sung_in verse (rows row)) event ≡ None) → from ≤ own → own < from + n
    → word_of (verse_sung (map rows (range_with_len from n)) verse) event ≡ word_of (sung_in verse (rows own)) event
one_sings rows verse event own from zero none le less = absurd (omega arith)
one_sings rows verse event own from (suc n) none le less =
    word_both (sung_in verse (rows from)) (verse_sung (map rows (range_with_len (from + 1) n)) verse) event
    ∙ by_place (cases_lt from own) (one_sings rows verse event own (from + 1) n none) where
      by_place : (from < own) ⊎ (own ≤ from)
          → (from + 1 ≤ own → own < from + 1 + n
          → word_of (verse_sung (map rows (range_with_len (from + 1) n)) verse) event
          ≡ word_of (sung_in verse (rows own)) event)
          → option_or (word_of (sung_in verse (rows from)) event)
          (word_of (verse_sung (map rows (range_with_len (from + 1) n)) verse) event)
          ≡ word_of (sung_in verse (rows own)) event
      by_place (inl before) rest =
          ap (λ w. option_or w (word_of (verse_sung (map rows (range_with_len (from + 1) n)) verse) event))
          (none from (λ same. let e : from ≡ own = same in absurd (omega arith)))
          ∙ rest (omega arith) (omega arith)
      by_place (inr ge) rest =
          let here : from ≡ own = omega arith in
          ap (option_or (word_of (sung_in verse (rows from)) event))
          (all_silent rows verse event (from + 1) n
          (λ row le. none row (λ same. let e : row ≡ own = same in absurd (omega arith))))
          ∙ (or_none (word_of (sung_in verse (rows from)) event)
          ∙ ap (λ r. word_of (sung_in verse (rows r)) event) here)

-- the entry of an event and a verse
pub at_place : (rows : List MusicRow) (verses count event verse : ℕ)
    → event < count → verse < verses
    → word_at (map (event_words rows verses) (range_with_len 0 count)) event verse
    ≡ word_of (verse_sung rows verse) event
at_place rows verses count event verse less within =
    ap (λ ws. slice_index_or ws verse None)
    (get_or-map-range_with_len (event_words rows verses) 0 count event event [] less (omega arith))
    ∙ get_or-map-range_with_len (λ v. word_of (verse_sung rows v) event) 0 verses verse verse None within (omega arith)

stand_apart : (ends : List ℕ) (notes : List SungNote) (i : ℕ) (d : SungNote)
    → AreOfDistinctEvents notes → i < length notes
    → StandOn ends (get_or notes i d).event (row_of ends (get_or notes i d).line) notes
stand_apart ends notes i d apart less k e inside same =
    let at : k ≡ i = apart k i e d inside less same in
    ap (λ (n : SungNote). row_of ends n.line) (ap (λ j. get_or notes j e) at ∙ get_or_default notes i e d less)

pub own_words : (v : Verses) (notes : List SungNote) (count i verse : ℕ) (d : SungNote)
    (words : List (List (Option (List ℕ))))
    → words ≡ words_of_events v notes count → AreOfDistinctEvents notes → i < length notes
    → (get_or notes i d).event < count
    → verse < verse_count v
    → word_at words (get_or notes i d).event verse ≡ own_word v notes (get_or notes i d) verse
own_words v notes count i verse d words are apart inside less within =
    let rows : ℕ → MusicRow = music_row v.list v.ends notes in
    let own : ℕ = row_of v.ends (get_or notes i d).line in
    let most = row_of_within v.ends (get_or notes i d).line in
    ap (λ ws. word_at ws (get_or notes i d).event verse) are
    ∙ (at_place (music_rows v notes) (verse_count v) count (get_or notes i d).event verse less within
    ∙ one_sings rows verse (get_or notes i d).event own 0 (rows_in v)
    (λ row other.
    silent (get_or notes i d).event (notes_on row v.ends notes) (slice_get (rows row).texts verse)
    (free_elsewhere v.ends (get_or notes i d).event own row notes (stand_apart v.ends notes i d apart inside) other))
    (omega arith) (omega (arith, most)))

free_of : (ends : List ℕ) (event row : ℕ) (notes : List SungNote)
    → All (λ n. n.event ≡ event → ⊥) notes → StandOn ends event row notes
free_of ends event row notes free k d inside same = absurd (free k d inside same)

pub no_words_elsewhere : (v : Verses) (notes : List SungNote) (count event verse : ℕ)
    (words : List (List (Option (List ℕ))))
    → words ≡ words_of_events v notes count → All (λ n. n.event ≡ event → ⊥) notes → event < count
    → verse < verse_count v
    → word_at words event verse ≡ None
no_words_elsewhere v notes count event verse words are free less within =
    let rows : ℕ → MusicRow = music_row v.list v.ends notes in
    ap (λ ws. word_at ws event verse) are
    ∙ (at_place (music_rows v notes) (verse_count v) count event verse less within
    ∙ all_silent rows verse event 0 (rows_in v)
    (λ row le.
    silent event (notes_on row v.ends notes) (slice_get (rows row).texts verse)
    (free_elsewhere v.ends event (row + 1) row notes (free_of v.ends event (row + 1) notes free)
    (λ same. let e : row ≡ row + 1 = same in absurd (omega arith)))))
