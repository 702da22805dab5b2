use Rattle.std.{proofs.Common.◌≡◌, proofs.Common.◌++◌, specs.Vec.Iter.into_iter_items}
use Rattle.mus_laid.proofs.columns.put_column.Given as goal

abbrev pub invariant-loop-laid : goal.invariant-loop-laid
invariant-loop-laid l = l.out ++ into_iter_items l.laid-iterator ≡ l.fn.out ++ into_iter_items l.initial.laid-iterator
