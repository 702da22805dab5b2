use Rattle.std.{proofs.Common.◌≡◌, proofs.Common.map, specs.List.range_with_len}
use Rattle.mus_onsets.specs.Onsets.{measure_length}
use Rattle.mus_onsets.proofs.times.lengths.Given as goal

abbrev pub invariant-loop-k : goal.invariant-loop-k
invariant-loop-k l = l.lengths ≡ map (measure_length l.voices) (range_with_len 0 l.k)
