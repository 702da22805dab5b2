use Rattle.std.proofs.Common.{◌≡◌, ◌++◌, drop}
use Rattle.mus_onsets.specs.Onsets.{voice_onsets}
use Rattle.mus_onsets.proofs.times.put_voices.Given as goal

abbrev pub invariant-loop-i : goal.invariant-loop-i
invariant-loop-i l = l.out ++ voice_onsets l.i (drop l.i l.voices) ≡ l.fn.out ++ voice_onsets 0 l.voices
