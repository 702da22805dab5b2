use Rattle.std.proofs.Common.{◌≡◌, ◌≤◌, ◌<◌, ◌+◌, ◌*◌, ℕ, None, length, reverse, take, slice_index_or}
use Rattle.{abc_steps.specs.Counts.{counts_of}, abc_events.specs.Bars.{bars_at}}
use Rattle.abc_events.proofs.bars.all_bars.Given as goal

abbrev pub invariant-loop-s : goal.invariant-loop-s
invariant-loop-s l = record {
  len : length l.all.items ≡ l.n + 1;
  bars : (begun : ℕ)
      → begun < l.n + 1 → slice_index_or l.all.items begun None ≡ bars_at begun (reverse (take l.s-index l.steps));
  counts : l.counts ≡ counts_of (reverse (take l.s-index l.steps));
  groups : l.counts.groups ≤ l.s-index;
  further : l.counts.further ≤ 65535 * l.s-index;
}
