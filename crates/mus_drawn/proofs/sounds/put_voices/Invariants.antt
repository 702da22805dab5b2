use Rattle.std.proofs.Common.{◌≡◌, ◌++◌, drop}
use Rattle.mus_drawn.specs.Hearing.{voices_sounds}
use Rattle.mus_drawn.proofs.sounds.put_voices.Given as goal

abbrev pub invariant-loop-i : goal.invariant-loop-i
invariant-loop-i l =
    l.out ++ voices_sounds l.i l.spread (drop l.i l.voices) ≡ l.fn.out ++ voices_sounds 0 l.spread l.voices
