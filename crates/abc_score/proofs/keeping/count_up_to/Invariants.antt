use Rattle.{std.{proofs.Common.{◌≤◌, take}, specs.Prelude.sum_by}, abc_faults.specs.Weights.{count_up_to, weight_at}}
use Rattle.abc_score.proofs.keeping.count_up_to.Given as goal

abbrev pub invariant-loop-w : goal.invariant-loop-w
invariant-loop-w l = l.count ≤ sum_by (count_up_to (weight_at 0 l.at)) (take l.w-index l.weights)
