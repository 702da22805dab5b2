use Rattle.std.proofs.Common.{◌≡◌, ◌++◌, length}
use Rattle.std.specs.Vec.Iter.{into_iter_items, into_iter_len}
use Rattle.mus_score.proofs.leaves.put_all.Given as goal

abbrev pub invariant-loop-f : goal.invariant-loop-f
invariant-loop-f l = record {
  list : l.events ++ into_iter_items l.f-iterator ≡ l.fn.events ++ into_iter_items l.initial.f-iterator;
  count : into_iter_len l.f-iterator ≡ length (into_iter_items l.f-iterator);
}
