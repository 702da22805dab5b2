use Rattle.std.proofs.Common.{◌≡◌, ◌++◌, drop}
use Rattle.ps_text.specs.Document.{numbered, staff_text}
use Rattle.ps_text.proofs.document.put_staves.Given as goal

abbrev pub invariant-loop-s : goal.invariant-loop-s
invariant-loop-s l = record {
  count : l.k ≡ l.s-index;
  text : l.fn.out ++ numbered staff_text 0 l.staves ≡ l.out ++ numbered staff_text l.k (drop l.s-index l.staves);
}
