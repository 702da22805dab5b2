use Rattle.std.{proofs.Common.◌≡◌, specs.Prelude.map, specs.List.range_with_len}
use Rattle.abc_words.specs.{Verses.verse_count, Words.event_words, Words.music_rows}
use Rattle.abc_words.proofs.words.words_of_events.Given as goal

abbrev pub invariant-loop-event : goal.invariant-loop-event
invariant-loop-event l =
    l.words ≡ map (event_words (music_rows l.fn.verses l.notes) (verse_count l.fn.verses)) (range_with_len 0 l.event)
