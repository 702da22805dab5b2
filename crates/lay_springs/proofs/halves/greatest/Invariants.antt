use Rattle.std.proofs.Common.{◌≡◌, ℕ, ◌-◌, ◌<◌, ◌≤◌}
use Rattle.lay_springs.specs.Spaced.{CanStand, FitAt}
use Rattle.lay_springs.proofs.halves.greatest.Given as goal

abbrev pub invariant-loop-low : goal.invariant-loop-low
invariant-loop-low g l = record {
  between : l.low ≤ l.high;
  within : l.high ≤ 2049;
  same : l.placing.columns ≡ l.fn.placing.columns;
  fits : 0 < l.low
      → FitAt g.C.Spaced.reach_of g.C.Spring.length_of l.fn.placing.columns l.width (l.low - 1);
  never : (f : ℕ) → l.high ≤ f → f ≤ 2048
      → CanStand g.C.Spaced.reach_of g.C.Spring.length_of l.fn.placing.columns l.width f
      → ⊥;
}

abbrev pub decreases-loop-low : goal.decreases-loop-low
decreases-loop-low g l = l.high - l.low
