use Rattle.std.proofs.Common.{◌≡◌, ◌++◌, ◌≤◌, length, drop}
use Rattle.mus_stems.specs.Slope.{slope_inputs}
use Rattle.mus_stems.proofs.slopes.anchors_for.Given as goal

abbrev pub invariant-loop-plan : goal.invariant-loop-plan
invariant-loop-plan l = record {
  within : length l.yielded ≤ length l.plans;
  anchors : l.out ++ slope_inputs (drop (length l.yielded) l.plans) (drop (length l.yielded) l.at)
      ≡ slope_inputs l.plans l.at;
}
