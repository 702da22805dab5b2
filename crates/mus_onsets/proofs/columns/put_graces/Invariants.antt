use Rattle.std.proofs.Common.{◌≡◌, ◌++◌, drop}
use Rattle.mus_onsets.specs.Keys.{grace_keys}
use Rattle.mus_onsets.proofs.columns.put_graces.Given as goal

abbrev pub invariant-loop-i : goal.invariant-loop-i
invariant-loop-i l =
    l.out ++ grace_keys l.measure l.tick l.i (drop l.i l.graces) ≡ l.fn.out ++ grace_keys l.measure l.tick 0 l.graces
