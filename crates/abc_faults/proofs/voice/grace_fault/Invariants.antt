use Rattle.std.proofs.Common.{◌≡◌, drop}
use Rattle.abc_faults.specs.{First.earlier, First.first_of, Faults.grace_faults}
use Rattle.abc_faults.proofs.voice.grace_fault.Given as goal

abbrev pub invariant-loop-s : goal.invariant-loop-s
invariant-loop-s l =
    earlier l.found (first_of (grace_faults l.clef (drop l.s-index l.waits))) ≡ first_of (grace_faults l.clef l.waits)
