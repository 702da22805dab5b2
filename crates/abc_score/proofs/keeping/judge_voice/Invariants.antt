use Rattle.std.proofs.Common.{◌≡◌, ◌≤◌, ◌*◌, ◌++◌, [], reverse, take, drop, true}
use Rattle.abc_steps.specs.Good.{IsGoodForce}
use Rattle.abc_steps.specs.Places.{state_at}
use Rattle.{abc_signs.specs.Signs.signs, abc_score.proofs.Stops.IsAt}
use Rattle.abc_score.proofs.keeping.judge_voice.Given as goal

abbrev pub invariant-loop-i : goal.invariant-loop-i
invariant-loop-i l = record {
  judged : IsAt l.v.first l.steps (reverse (take l.i l.steps)) (drop l.i l.steps) l.found l.fn.weights l.weights;
  kept : l.kept.whole ≡ true
      → l.kept.signs ++ signs l.v.first (reverse (take l.i l.steps)) (drop l.i l.steps) ≡ signs l.v.first [] l.steps;
  place : l.now ≡ state_at l.v.first (reverse (take l.i l.steps));
  groups : l.now.counts.groups ≤ l.i;
  further : l.now.counts.further ≤ 65535 * l.i;
  force : IsGoodForce l.now.force;
}
