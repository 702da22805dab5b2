use Rattle.std.proofs.Common.{◌≡◌, ◌++◌, map, length}
use Rattle.std.specs.List.{All}
use Rattle.std.specs.Prelude.{None}
use Rattle.std.specs.Vec.Iter.{into_iter_items, into_iter_len}
use Rattle.abc_words.specs.Verses.{verse_fault}
use Rattle.abc_score.specs.declared.keeping.JudgedVoice.{JudgedVoice}
use Rattle.abc_score.specs.Judged.{HasKept, reads_of}
use Rattle.abc_score.specs.Voices.{IsGoodRead}
use Rattle.abc_score.specs.Score.{voice_by_header}
use Rattle.abc_score.proofs.scores.voices_with.Given as goal

abbrev pub invariant-loop-judged : goal.invariant-loop-judged
invariant-loop-judged l = record {
  list : l.out ++ map (voice_by_header l.header l.n) (reads_of (into_iter_items l.judged-iterator))
      ≡ map (voice_by_header l.header l.n) (reads_of (into_iter_items l.initial.judged-iterator));
  good : All (λ (j : JudgedVoice). IsGoodRead j.read) (into_iter_items l.judged-iterator);
  kept : All HasKept (into_iter_items l.judged-iterator);
  clear : All (λ (j : JudgedVoice). verse_fault j.read.verses ≡ None) (into_iter_items l.judged-iterator);
  count : into_iter_len l.judged-iterator ≡ length (into_iter_items l.judged-iterator);
}
