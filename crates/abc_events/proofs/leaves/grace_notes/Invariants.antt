use Rattle.std.proofs.Common.{◌≡◌, ◌++◌, map, drop}
use Rattle.abc_events.specs.Leaves.{grace_note}
use Rattle.abc_events.proofs.leaves.grace_notes.Given as goal

abbrev pub invariant-loop-g : goal.invariant-loop-g
invariant-loop-g l = l.notes ++ map grace_note (drop l.g-index l.graces) ≡ map grace_note l.graces
