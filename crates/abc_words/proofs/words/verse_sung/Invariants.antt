use Rattle.std.{proofs.Common.◌≡◌, proofs.Common.◌++◌, proofs.Common.drop, specs.Prelude.flat_map}
use Rattle.abc_words.specs.Words.{sung_in}
use Rattle.abc_words.proofs.words.verse_sung.Given as goal

abbrev pub invariant-loop-row : goal.invariant-loop-row
invariant-loop-row l =
    l.sung ++ flat_map (sung_in l.verse) (drop l.row-index l.rows) ≡ flat_map (sung_in l.verse) l.rows
