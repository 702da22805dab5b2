use Rattle.std.proofs.Common.{◌≡◌, ◌++◌, ◌≤◌, length, drop}
use Rattle.mus_stems.specs.Slope.{with_ends}
use Rattle.mus_stems.proofs.slopes.copy_all_with.Given as goal

abbrev pub invariant-loop-plan : goal.invariant-loop-plan
invariant-loop-plan l = record {
  within : length l.yielded ≤ length l.plans;
  copies : l.out ++ with_ends (drop (length l.yielded) l.plans) (drop (length l.yielded) l.ends)
      ≡ with_ends l.plans l.ends;
}
