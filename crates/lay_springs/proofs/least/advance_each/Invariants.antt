use Rattle.std.proofs.Common.{◌≡◌, ℕ, ◌<◌, ◌≤◌, pos, slice_index_or}
use Rattle.lay_springs.specs.{Place.Advances, ReachView.reach_in}
use Rattle.lay_springs.proofs.least.advance_each.Given as goal

abbrev pub invariant-loop-lane : goal.invariant-loop-lane
invariant-loop-lane l = record {
  done : (k : ℕ) → k < l.lane
      → Advances (reach_in l.row k) l.at (slice_index_or l.fn.front k (pos 0)) (slice_index_or l.front k (pos 0));
  left : (k : ℕ) → l.lane ≤ k → slice_index_or l.front k (pos 0) ≡ slice_index_or l.fn.front k (pos 0);
}
