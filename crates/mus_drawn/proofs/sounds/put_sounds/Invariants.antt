use Rattle.std.proofs.Common.{◌≡◌, ◌++◌, drop}
use Rattle.mus_drawn.specs.Hearing.{sounds_from}
use Rattle.mus_drawn.proofs.sounds.put_sounds.Given as goal

abbrev pub invariant-loop-k : goal.invariant-loop-k
invariant-loop-k l =
    l.out ++ sounds_from l.voice l.event l.k (drop l.k l.heads) ≡ l.fn.out ++ sounds_from l.voice l.event 0 l.heads
