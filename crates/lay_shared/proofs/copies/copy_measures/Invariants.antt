use Rattle.std.proofs.Common.{◌≡◌, ◌++◌, drop}
use Rattle.lay_shared.proofs.copies.copy_measures.Given as goal

abbrev pub invariant-loop-measure : goal.invariant-loop-measure
invariant-loop-measure l = l.copy ++ drop l.measure-index l.measures ≡ l.measures
