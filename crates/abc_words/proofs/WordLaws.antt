-- The words of all verses, seen event by event.
use Rattle.std.proofs.Common.{◌≡◌, ℕ, ◌<◌, ◌≤◌, List, [], ◌∷◌, ◌++◌, length, map, slice_index_or, refl, sym, ap, subst}
use Rattle.std.proofs.Common.{◌∙◌, arith, append-nil}
use Rattle.std.proofs.lemmas.Option.{slice_get_past}
use Rattle.std.proofs.lemmas.List.Elements.{All-nil, All-cons}
use Rattle.std.proofs.lemmas.List.FromFn.{get_or-map-range_with_len, length-map-range_with_len}
use Rattle.std.specs.Prelude.{Option, Some, None, slice_get}
use Rattle.std.specs.List.{All, range_with_len}
use Rattle.std.specs.Option.{option_or}
use Rattle.mus_lyric.specs.declared.singing.Sung.{Sung}
use Rattle.abc_words.specs.declared.music.MusicRow.{MusicRow}
use Rattle.abc_words.specs.declared.music.SungNote.{SungNote}
use Rattle.abc_words.specs.declared.verses.Verse.{Verse}
use Rattle.abc_words.specs.declared.verses.Verses.{Verses}
use Rattle.abc_words.specs.Verses.{rows_in}
use Rattle.abc_words.specs.Words.{event_words, music_row, music_rows, no_music, notes_on, sung_in, sung_with}
use Rattle.abc_words.specs.Words.{texts_on, verse_sung, with_notes, row_with_texts, word_of}
use Rattle.abc_words.proofs.Places.{from_places}

pub or_none : {X : Type 0} (o : Option X) → option_or o None ≡ o
or_none None = refl
or_none (Some x) = refl

abbrev pub verse_places : List MusicRow → ℕ → ℕ → List (Option (List ℕ))
verse_places rows count verse = map (word_of (verse_sung rows verse)) (range_with_len 0 count)

at_verses : (rows : List MusicRow) (count event : ℕ) (verses : List ℕ)
    → event < count
    → map (λ ws. slice_index_or ws event None) (map (verse_places rows count) verses)
    ≡ map (λ verse. word_of (verse_sung rows verse) event) verses
at_verses rows count event [] less = refl
at_verses rows count event (verse ∷ verses) less =
    ap (λ w. w ∷ map (λ ws. slice_index_or ws event None) (map (verse_places rows count) verses))
    (get_or-map-range_with_len (word_of (verse_sung rows verse)) 0 count event event None less (omega arith))
    ∙ ap (λ ws. word_of (verse_sung rows verse) event ∷ ws) (at_verses rows count event verses less)

-- the words of one event, taken from those of all verses
pub at_event : (rows : List MusicRow) (verses count event : ℕ) (all : List (List (Option (List ℕ))))
    (words : List (Option (List ℕ)))
    → event < count
    → all ≡ map (verse_places rows count) (range_with_len 0 verses)
    → words ≡ map (λ ws. slice_index_or ws event None) all
    → words ≡ event_words rows verses event
at_event rows verses count event all words less are is =
    is ∙ (ap (map (λ ws. slice_index_or ws event None)) are ∙ at_verses rows count event (range_with_len 0 verses) less)

long_rows : (rows : List MusicRow) (verses : ℕ) (events : List ℕ)
    → All (λ ws. length ws ≡ verses) (map (event_words rows verses) events)
long_rows rows verses [] = All-nil (λ ws. length ws ≡ verses)
long_rows rows verses (event ∷ events) =
    All-cons (λ ws. length ws ≡ verses) (event_words rows verses event) (map (event_words rows verses) events)
    (length-map-range_with_len (λ verse. word_of (verse_sung rows verse) event) 0 verses) (long_rows rows verses events)

pub all_long : (rows : List MusicRow) (verses count : ℕ) (words : List (List (Option (List ℕ))))
    → words ≡ map (event_words rows verses) (range_with_len 0 count) → All (λ ws. length ws ≡ verses) words
all_long rows verses count words is =
    let P : List (List (Option (List ℕ))) → Type 0 = λ xs. All (λ ws. length ws ≡ verses) xs in
    subst P (sym is) (long_rows rows verses (range_with_len 0 count))

-- a row that is filled
pub filled : (verses : List Verse) (ends : List ℕ) (notes : List SungNote) (k : ℕ) (a b c : MusicRow)
    → a ≡ no_music → b ≡ row_with_texts a (texts_on k verses) → c ≡ with_notes b (notes_on k ends notes)
    → c ≡ music_row verses ends notes k
filled verses ends notes k a b c empty texts all =
    all
    ∙ (ap (λ r. with_notes r (notes_on k ends notes)) (texts ∙ ap (λ r. row_with_texts r (texts_on k verses)) empty))

pub rows_made : (v : Verses) (notes : List SungNote) (n : ℕ) (start texts all : List MusicRow)
    → n ≡ rows_in v → length start ≡ n
    → length texts ≡ length start
    → length all ≡ length texts
    → ((k : ℕ) → k < n → slice_index_or start k no_music ≡ no_music)
    → ((k : ℕ) → k < length start
    → slice_index_or texts k no_music ≡ row_with_texts (slice_index_or start k no_music) (texts_on k v.list))
    → ((k : ℕ) → k < length texts
    → slice_index_or all k no_music ≡ with_notes (slice_index_or texts k no_music) (notes_on k v.ends notes))
    → all ≡ music_rows v notes
rows_made v notes n start texts all rows long long_texts long_all empty with_them full =
    from_places (music_row v.list v.ends notes) all n no_music (omega arith)
    (λ k less.
    filled v.list v.ends notes k (slice_index_or start k no_music) (slice_index_or texts k no_music)
    (slice_index_or all k no_music)
    (empty k less) (with_them k (omega arith)) (full k (omega arith)))
    ∙ ap (λ m. map (music_row v.list v.ends notes) (range_with_len 0 m)) rows

-- a row without a text for a verse
pub not_sung : (row : MusicRow) (texts : List (List ℕ)) (verse : ℕ) (sung : List Sung)
    → texts ≡ row.texts → length texts ≤ verse → sung ≡ sung ++ sung_in verse row
not_sung row texts verse sung are past =
    sym (append-nil sung)
    ∙ ap (λ found. sung ++ sung_with row.notes found)
    (sym (ap (λ ts. slice_get ts verse) (sym are) ∙ slice_get_past texts verse past))
