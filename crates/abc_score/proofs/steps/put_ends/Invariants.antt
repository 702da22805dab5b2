use Rattle.std.proofs.Common.{◌≡◌, ◌++◌, ◌∷◌, ◌&&◌, map, take, drop}
use Rattle.std.specs.Str.{bytes_eq}
use Rattle.abc_steps.specs.declared.step.Step.{Step}
use Rattle.abc_items.specs.Voices.{break_if, stood}
use Rattle.abc_score.specs.Steps.{with_steps}
use Rattle.abc_score.specs.declared.voices.ReadVoice.{ReadVoice}
use Rattle.abc_score.proofs.steps.put_ends.Given as goal

abbrev pub invariant-loop-voice : goal.invariant-loop-voice
invariant-loop-voice l =
    let ended : ReadVoice → ReadVoice =
    λ v. with_steps v (stood Step.LineEnd l.line l.column ∷ break_if (l.breaks && bytes_eq v.start.id l.current) l.line
    l.column) in
    take l.voice-index l.voices ++ map ended (drop l.voice-index l.voices) ≡ map ended l.fn.voices
