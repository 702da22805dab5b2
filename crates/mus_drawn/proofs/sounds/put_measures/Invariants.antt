use Rattle.std.proofs.Common.{◌≡◌, ◌++◌, [], drop}
use Rattle.mus_drawn.specs.Hearing.{measures_sounds}
use Rattle.mus_drawn.proofs.sounds.put_measures.Given as goal

abbrev pub invariant-loop-m : goal.invariant-loop-m
invariant-loop-m l =
    l.out ++ measures_sounds l.voice l.spread l.state.now l.state.before (drop l.m-index l.measures)
    ≡ l.fn.out ++ measures_sounds l.voice l.spread l.fn.now [] l.measures
