use Rattle.std.proofs.Common.{◌≡◌, ◌++◌, ◌∷◌, ◌-◌, ◌≤◌, replicate}
use Rattle.lay_reaches.specs.Distances.{main_gap, other_gap}
use Rattle.lay_reaches.proofs.lanes.put_gaps.Given as goal

abbrev pub invariant-loop : goal.invariant-loop
invariant-loop l =
    record { begun : 1 ≤ l.counter; gaps : l.out ≡ l.fn.out ++ main_gap ∷ replicate (l.counter - 1) other_gap }
