use Rattle.std.proofs.Common.{◌≡◌, drop}
use Rattle.{mus_laid.specs.Ranked.{inked}, mus_ink.specs.Signatures.{entry_marks}}
use Rattle.mus_ink.proofs.signatures.put_entries.Given as goal

abbrev pub invariant-loop-sign : goal.invariant-loop-sign
invariant-loop-sign l = record {
  count : l.k ≡ l.sign-index;
  marks : inked l.pen (entry_marks l.clef l.ends l.first l.k (drop l.sign-index l.signs))
      ≡ inked l.fn.pen (entry_marks l.clef l.ends l.first 0 l.signs);
}
