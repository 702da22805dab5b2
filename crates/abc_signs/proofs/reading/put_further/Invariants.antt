use Rattle.std.proofs.Common.{◌≡◌, ◌++◌, ◌+◌, ◌-◌}
use Rattle.abc_signs.specs.Signs.{further_rests}
use Rattle.abc_signs.proofs.reading.put_further.Given as goal

abbrev pub invariant-loop-i : goal.invariant-loop-i
invariant-loop-i l =
    l.out ++ further_rests l.step.state.now l.step.at.now l.seen (l.measure + l.i) (l.count - l.i)
    ≡ l.fn.out ++ further_rests l.step.state.now l.step.at.now l.seen l.measure l.count
