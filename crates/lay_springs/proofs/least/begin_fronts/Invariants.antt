use Rattle.std.proofs.Common.{ℕ, ◌<◌, pos, negsuc, slice_index_or}
use Rattle.lay_springs.specs.Place.{Advances}
use Rattle.lay_springs.proofs.least.begin_fronts.Given as goal

abbrev pub invariant-loop-lane : goal.invariant-loop-lane
invariant-loop-lane g l =
    (k : ℕ)
    → k < l.lane → Advances (g.C.Spaced.reach_of l.col k) l.at (negsuc 1099511627775) (slice_index_or l.front k (pos 0))
