use Rattle.std.{proofs.Common.◌≡◌, specs.Prelude.map, specs.List.range_with_len}
use Rattle.abc_words.specs.Words.{verse_sung, word_of}
use Rattle.abc_words.proofs.words.all_words.Given as goal

abbrev pub invariant-loop-verse : goal.invariant-loop-verse
invariant-loop-verse l =
    l.all ≡ map (λ verse. map (word_of (verse_sung l.rows verse)) (range_with_len 0 l.count)) (range_with_len 0 l.verse)
