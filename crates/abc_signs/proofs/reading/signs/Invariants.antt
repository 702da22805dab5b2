use Rattle.std.proofs.Common.{◌≡◌, ◌≤◌, ◌*◌, ◌++◌, [], reverse, take, drop}
use Rattle.{abc_steps.specs.{Good.IsGoodForce, Places.state_at}, abc_signs.specs.Signs.{signs}}
use Rattle.abc_signs.proofs.reading.signs.Given as goal

abbrev pub invariant-loop-i : goal.invariant-loop-i
invariant-loop-i l = record {
  signs : l.out ++ signs l.first (reverse (take l.i l.steps)) (drop l.i l.steps) ≡ signs l.first [] l.steps;
  place : l.now ≡ state_at l.first (reverse (take l.i l.steps));
  groups : l.now.counts.groups ≤ l.i;
  further : l.now.counts.further ≤ 65535 * l.i;
  force : IsGoodForce l.now.force;
}
