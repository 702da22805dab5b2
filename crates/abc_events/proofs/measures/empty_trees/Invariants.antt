use Rattle.std.proofs.Common.{◌≡◌, ◌<◌, [], ℕ, length, slice_index_or}
use Rattle.abc_events.specs.Nesting.{no_tree}
use Rattle.abc_events.proofs.measures.empty_trees.Given as goal

abbrev pub invariant-loop-k : goal.invariant-loop-k
invariant-loop-k l = record {
  len : length l.trees.items ≡ l.k;
  stack : (j : ℕ) → j < l.k → (slice_index_or l.trees.items j no_tree).stack.items ≡ [];
  body : (j : ℕ) → j < l.k → (slice_index_or l.trees.items j no_tree).body ≡ [];
}
