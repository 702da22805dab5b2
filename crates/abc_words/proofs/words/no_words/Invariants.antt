use Rattle.std.{proofs.Common.◌≡◌, proofs.Common.None, specs.Prelude.replicate}
use Rattle.abc_words.proofs.words.no_words.Given as goal

abbrev pub invariant-loop-place : goal.invariant-loop-place
invariant-loop-place l = l.words.items ≡ replicate l.place None
