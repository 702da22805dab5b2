use Rattle.std.proofs.Common.{◌≡◌, ℕ, ◌+◌, ◌-◌, ◌*◌, ◌<◌, ◌≤◌}
use Rattle.lay_springs.specs.Spaced.{CanStand, FitAt, HavePlaced}
use Rattle.lay_springs.proofs.placing.Placing.search_within.Given as goal

abbrev pub invariant-loop-low : goal.invariant-loop-low
invariant-loop-low g l = record {
  between : l.low ≤ l.high;
  within : l.high ≤ l.most + 1;
  few : l.high < l.low + 2 * l.half;
  short : l.half ≤ 8196;
  same : l.self.columns ≡ l.fn.self.columns;
  at : l.self.at.ghost_name ≡ l.fn.self.at.ghost_name;
  front : l.self.front.ghost_name ≡ l.fn.self.front.ghost_name;
  placed : HavePlaced g.C.Spaced.reach_of g.C.Spring.length_of l.fn.self.columns l.self.progress l.self.at.now
      l.self.front.now;
  fits : 0 < l.low → FitAt g.C.Spaced.reach_of g.C.Spring.length_of l.fn.self.columns l.width (l.low - 1);
  never : (f : ℕ) → l.high ≤ f → f ≤ l.most
      → CanStand g.C.Spaced.reach_of g.C.Spring.length_of l.fn.self.columns l.width f
      → ⊥;
}

abbrev pub decreases-loop-low : goal.decreases-loop-low
decreases-loop-low g l = l.high - l.low
