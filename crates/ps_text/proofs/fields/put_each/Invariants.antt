use Rattle.std.{proofs.Common.◌≡◌, proofs.Common.◌++◌, proofs.Common.take, specs.List.flat_map}
use Rattle.ps_text.specs.Fields.{shown}
use Rattle.ps_text.proofs.fields.put_each.Given as goal

abbrev pub invariant-loop-b : goal.invariant-loop-b
invariant-loop-b l = l.out ≡ l.fn.out ++ flat_map shown (take l.b-index l.words)
