use Rattle.std.proofs.Common.{◌≡◌, ◌≤◌, ◌*◌, reverse, take}
use Rattle.{abc_steps.specs.Counts.{counts_of}, abc_events.specs.Bars.{forced_at}}
use Rattle.abc_events.proofs.bars.forced_bars.Given as goal

abbrev pub invariant-loop-s : goal.invariant-loop-s
invariant-loop-s l = record {
  forced : l.forced ≡ forced_at l.n (reverse (take l.s-index l.steps));
  counts : l.counts ≡ counts_of (reverse (take l.s-index l.steps));
  groups : l.counts.groups ≤ l.s-index;
  further : l.counts.further ≤ 65535 * l.s-index;
}
