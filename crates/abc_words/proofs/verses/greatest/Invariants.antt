use Rattle.std.{proofs.Common.◌≡◌, proofs.Common.drop, specs.Prelude.fold, specs.Prelude.max}
use Rattle.abc_words.proofs.verses.greatest.Given as goal

abbrev pub invariant-loop-n : goal.invariant-loop-n
invariant-loop-n l = fold max l.most (drop l.n-index l.counts) ≡ fold max 0 l.counts
