use Rattle.std.proofs.Common.{ℤ, ◌≤ℤ◌}
use Rattle.lay_springs.specs.{Place.IsPast, ReachView.reach_in}
use Rattle.lay_springs.proofs.least.past_each.Given as goal

abbrev pub invariant-loop-lane : goal.invariant-loop-lane
invariant-loop-lane l = record {
  kept : l.from ≤ℤ l.next;
  clear : IsPast (reach_in l.row) l.gaps l.lane l.front l.next;
  least : (v : ℤ) → l.from ≤ℤ v → IsPast (reach_in l.row) l.gaps l.lane l.front v → l.next ≤ℤ v;
}
