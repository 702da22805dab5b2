use Rattle.std.proofs.Common.{◌≡◌, drop}
use Rattle.std.specs.Prelude.{fold, map, max}
use Rattle.abc_score.specs.Judged.{reads_of}
use Rattle.abc_score.specs.Score.{own_measures}
use Rattle.abc_score.proofs.scores.most_measures.Given as goal

abbrev pub invariant-loop-judged : goal.invariant-loop-judged
invariant-loop-judged l =
    fold max l.most (map own_measures (reads_of (drop l.judged-index l.voices)))
    ≡ fold max 0 (map own_measures (reads_of l.voices))
