use Rattle.std.{proofs.Common.◌≡◌, proofs.Common.◌++◌, proofs.Common.drop, proofs.Common.map, specs.List.list_all}
use Rattle.mus_transpose.specs.Moved.{voice_by, voice_may}
use Rattle.mus_transpose.proofs.scores.voices_by.Given as goal

abbrev pub invariant-loop-v : goal.invariant-loop-v
invariant-loop-v l =
    (l.out ++ map (voice_by l.by) (drop l.v-index l.voices) ≡ map (voice_by l.by) l.voices)
    × (list_all (voice_may l.by) (drop l.v-index l.voices) ≡ list_all (voice_may l.by) l.voices)
