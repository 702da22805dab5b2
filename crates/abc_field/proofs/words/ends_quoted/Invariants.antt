use Rattle.std.proofs.Common.{◌≡◌, drop, false}
use Rattle.abc_field.specs.Words.{ends_quoted}
use Rattle.abc_field.proofs.words.ends_quoted.Given as goal

abbrev pub invariant-loop-byte : goal.invariant-loop-byte
invariant-loop-byte l = ends_quoted l.quoted (drop l.byte-index l.text) ≡ ends_quoted false l.text
