use Rattle.std.{proofs.Common.◌≡◌, proofs.Common.map, proofs.Common.min, proofs.Common.take, specs.List.sum}
use Rattle.mus_score.specs.Good.{weight}
use Rattle.mus_score.proofs.good.+weighing.Given as goal

abbrev pub invariant-weights_within-loop-m : goal.invariant-weights_within-loop-m
invariant-weights_within-loop-m l = l.sum ≡ min 50001 (sum (map weight (take l.m-index l.body)))
