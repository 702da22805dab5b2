use Rattle.std.proofs.Common.{◌≡◌, ◌++◌, drop}
use Rattle.{ps_text.specs.Document.{numbered}, ps_heard.specs.HeardText.{heard_staff_text}}
use Rattle.ps_heard.proofs.telling.put_staves.Given as goal

abbrev pub invariant-loop-heads : goal.invariant-loop-heads
invariant-loop-heads l = record {
  count : l.k ≡ l.heads-index;
  text : l.fn.out ++ numbered heard_staff_text 0 l.staves
      ≡ l.out ++ numbered heard_staff_text l.k (drop l.heads-index l.staves);
}
