use Rattle.std.proofs.Common.{◌≡◌, ◌≤◌, ◌*◌, reverse, take}
use Rattle.abc_steps.specs.Counts.{counts_of}
use Rattle.abc_events.proofs.bars.own_measures.Given as goal

abbrev pub invariant-loop-s : goal.invariant-loop-s
invariant-loop-s l = record {
  counts : l.counts ≡ counts_of (reverse (take l.s-index l.steps));
  groups : l.counts.groups ≤ l.s-index;
  further : l.counts.further ≤ 65535 * l.s-index;
}
