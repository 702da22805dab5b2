use Rattle.std.proofs.Common.{◌≡◌, ◌+◌, drop, false}
use Rattle.abc_field.specs.Words.{word_len}
use Rattle.abc_field.proofs.words.word_len.Given as goal

abbrev pub invariant-loop-i : goal.invariant-loop-i
invariant-loop-i l = l.i + word_len l.quotes l.quoted (drop l.i l.text) ≡ word_len l.quotes false l.text
