use Rattle.std.proofs.Common.{◌≡◌, max, map, drop}
use Rattle.mus_onsets.specs.Onsets.{greatest, length_in_voice}
use Rattle.mus_onsets.proofs.times.measure_length.Given as goal

abbrev pub invariant-loop-v : goal.invariant-loop-v
invariant-loop-v l =
    max l.longest (greatest (map (length_in_voice l.k) (drop l.v-index l.voices)))
    ≡ greatest (map (length_in_voice l.k) l.voices)
