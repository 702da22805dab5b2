use Rattle.std.proofs.Common.{◌≡◌, ℕ, ◌-◌, ◌*◌, ◌/◌, ◌<◌, ◌≤◌, pos, ◌+ℤ◌, length, slice_index_or}
use Rattle.lay_springs.proofs.margin.spread.Given as goal

abbrev pub invariant-loop-k : goal.invariant-loop-k
invariant-loop-k l = record {
  moved : (i : ℕ) → i < l.k
      → slice_index_or l.at i (pos 0) ≡ (slice_index_or l.fn.at i (pos 0) +ℤ pos (l.rest * i / (length l.fn.at - 1)));
  left : (i : ℕ) → l.k ≤ i → slice_index_or l.at i (pos 0) ≡ slice_index_or l.fn.at i (pos 0);
}
