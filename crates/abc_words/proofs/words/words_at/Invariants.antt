use Rattle.std.proofs.Common.{◌≡◌, ◌++◌, None, drop, map, slice_index_or}
use Rattle.abc_words.proofs.words.words_at.Given as goal

abbrev pub invariant-loop-verse : goal.invariant-loop-verse
invariant-loop-verse l =
    l.words ++ map (λ verse. slice_index_or verse l.event None) (drop l.verse-index l.all)
    ≡ map (λ verse. slice_index_or verse l.event None) l.all
