use Rattle.std.proofs.Common.{◌≡◌, ◌++◌, drop}
use Rattle.abc_steps.proofs.copies.put_chords.Given as goal

abbrev pub invariant-loop-chord : goal.invariant-loop-chord
invariant-loop-chord l = l.out ++ drop l.chord-index l.chords ≡ l.fn.out ++ l.chords
