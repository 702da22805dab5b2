use Rattle.std.{proofs.Common.◌≡◌, proofs.Common.None, specs.Prelude.replicate}
use Rattle.abc_events.proofs.leaves.no_words.Given as goal

abbrev pub invariant-loop-verse : goal.invariant-loop-verse
invariant-loop-verse l = l.words ≡ replicate l.verse None
