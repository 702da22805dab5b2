use Rattle.std.proofs.Common.{◌≡◌, ◌<◌, ◌+◌, [], ℕ, map, length, slice_index_or}
use Rattle.std.specs.List.{range_with_len}
use Rattle.std.specs.Vec.Iter.{into_iter_items, into_iter_len}
use Rattle.abc_events.specs.Leaves.{leaves_of}
use Rattle.abc_events.specs.Nesting.{tree_of, grown, no_tree}
use Rattle.abc_events.specs.Measures.{leaves_in, measure_of_leaves}
use Rattle.abc_events.proofs.measures.measures_of.Given as goal

abbrev pub invariant-loop-tree : goal.invariant-loop-tree
invariant-loop-tree l = record {
  measures : l.measures ≡ map (measure_of_leaves (leaves_of l.words l.fn.signs) l.bars) (range_with_len 0 l.k);
  left : l.k + length (into_iter_items l.tree-iterator) ≡ length l.bars;
  trees : (j : ℕ) → l.k + j < length l.bars
      → grown (slice_index_or (into_iter_items l.tree-iterator) j no_tree) []
      ≡ tree_of (leaves_in (l.k + j) (leaves_of l.words l.fn.signs));
  count : into_iter_len l.tree-iterator ≡ length (into_iter_items l.tree-iterator);
}
