use Rattle.std.proofs.Common.{◌≡◌, ◌<◌, ℕ, length, slice_index_or}
use Rattle.std.specs.List.{All}
use Rattle.std.specs.Vec.Iter.{into_iter_items, into_iter_len}
use Rattle.abc_signs.specs.Signs.{HasDrawableValues}
use Rattle.abc_events.specs.Leaves.{leaves_from}
use Rattle.abc_events.specs.Measures.{leaves_in}
use Rattle.abc_events.specs.Nesting.{tree_of, TakesAnother, grown, no_tree}
use Rattle.abc_events.proofs.measures.trees_of.Given as goal

abbrev pub invariant-loop-sign : goal.invariant-loop-sign
invariant-loop-sign l = record {
  len : length l.trees.items ≡ l.n;
  ready : (k : ℕ) → k < l.n → TakesAnother (slice_index_or l.trees.items k no_tree).stack.items;
  trees : (k : ℕ) → k < l.n
      → grown (slice_index_or l.trees.items k no_tree)
      (leaves_in k (leaves_from l.words l.at.event l.at.id (into_iter_items l.sign-iterator)))
      ≡ tree_of (leaves_in k (leaves_from l.words 0 0 (into_iter_items l.initial.sign-iterator)));
  drawn : All HasDrawableValues (into_iter_items l.sign-iterator);
  count : into_iter_len l.sign-iterator ≡ length (into_iter_items l.sign-iterator);
}
