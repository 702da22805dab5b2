use Rattle.std.proofs.Common.{ℤ, pos, ◌≤ℤ◌}
use Rattle.lay_springs.specs.Place.{IsInside}
use Rattle.lay_springs.proofs.least.first_of.Given as goal

abbrev pub invariant-loop-lane : goal.invariant-loop-lane
invariant-loop-lane g l = record {
  begins : pos 0 ≤ℤ l.first;
  inside : IsInside (g.C.Spaced.reach_of l.col) l.lane l.first;
  least : (v : ℤ) → pos 0 ≤ℤ v → IsInside (g.C.Spaced.reach_of l.col) l.lane v → l.first ≤ℤ v;
}
