use Rattle.std.proofs.Common.{◌≡◌, ◌≤◌, take, count_by}
use Rattle.abc_steps.specs.Kinds.{is_slur_on}
use Rattle.abc_steps.proofs.looks.count_slurs_on.Given as goal

abbrev pub invariant-loop-s : goal.invariant-loop-s
invariant-loop-s l = record {
  value : l.count ≡ count_by (λ s. is_slur_on s.step) (take l.s-index l.steps);
  within : l.count ≤ l.s-index;
}
