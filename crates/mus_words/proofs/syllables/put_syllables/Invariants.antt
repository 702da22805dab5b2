use Rattle.std.proofs.Common.{◌≡◌, ◌+◌, drop}
use Rattle.{mus_laid.specs.Ranked.{inked}, mus_words.specs.Syllables.{syllables_from}}
use Rattle.mus_words.proofs.syllables.put_syllables.Given as goal

abbrev pub invariant-loop-word : goal.invariant-loop-word
invariant-loop-word l = record {
  count : l.verse ≡ l.first + l.word-index;
  marks : inked l.pen (syllables_from l.low l.verse (drop l.word-index l.words))
      ≡ inked l.fn.pen (syllables_from l.low l.first l.words);
}
