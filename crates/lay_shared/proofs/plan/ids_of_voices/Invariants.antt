use Rattle.std.proofs.Common.{◌≡◌, ◌++◌, drop, map}
use Rattle.mus_score.specs.declared.score.Voice.{Voice}
use Rattle.lay_shared.proofs.plan.ids_of_voices.Given as goal

abbrev pub invariant-loop-voice : goal.invariant-loop-voice
invariant-loop-voice l =
    l.ids ++ map (λ (v : Voice). v.id) (drop l.voice-index l.voices) ≡ map (λ (v : Voice). v.id) l.voices
