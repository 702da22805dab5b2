use Rattle.mus_score.specs.Limits.{head_limit}
use Rattle.std.{proofs.Common.◌≡◌, proofs.Common.◌+◌, proofs.Common.take, specs.Prelude.sum_by}
use Rattle.abc_faults.proofs.crowd.first_crowded.Given as goal

abbrev pub invariant-loop-w : goal.invariant-loop-w
invariant-loop-w l = l.left + sum_by (λ w. w.count) (take l.w-index l.weights) ≡ head_limit
