use Rattle.std.proofs.Common.{◌≡◌, ◌++◌, drop}
use Rattle.mus_onsets.specs.Onsets.{measure_onsets}
use Rattle.mus_onsets.proofs.times.put_measures.Given as goal

abbrev pub invariant-loop-k : goal.invariant-loop-k
invariant-loop-k l =
    l.out ++ measure_onsets l.voice l.k (drop l.k l.measures) ≡ l.fn.out ++ measure_onsets l.voice 0 l.measures
