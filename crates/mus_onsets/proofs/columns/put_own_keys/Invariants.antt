use Rattle.std.proofs.Common.{◌≡◌, ◌++◌, drop, filter}
use Rattle.mus_onsets.specs.Keys.{is_for_each}
use Rattle.mus_onsets.proofs.columns.put_own_keys.Given as goal

abbrev pub invariant-loop-key : goal.invariant-loop-key
invariant-loop-key l = l.out ++ filter is_for_each (drop l.key-index l.keys) ≡ l.fn.out ++ filter is_for_each l.keys
