use Rattle.std.proofs.Common.{◌≡◌, ◌++◌, map, take, drop}
use Rattle.std.specs.Str.{bytes_eq}
use Rattle.abc_items.specs.Voices.{named_step}
use Rattle.abc_score.specs.Steps.{with_steps}
use Rattle.abc_score.specs.declared.voices.ReadVoice.{ReadVoice}
use Rattle.abc_score.proofs.steps.put_clef.Given as goal

abbrev pub invariant-loop-voice : goal.invariant-loop-voice
invariant-loop-voice l =
    let named : ReadVoice → ReadVoice =
    λ v. with_steps v (named_step (bytes_eq v.start.id l.def.id) l.def.clef l.line l.column) in
    take l.voice-index l.voices ++ map named (drop l.voice-index l.voices) ≡ map named l.fn.voices
