use Rattle.std.proofs.Common.{◌≡◌, ◌++◌, drop, map}
use Rattle.abc_field.specs.declared.voice.VoiceDef.{VoiceDef}
use Rattle.abc_items.proofs.voices.ids_in.Given as goal

abbrev pub invariant-loop-def : goal.invariant-loop-def
invariant-loop-def l =
    l.ids ++ map (λ (def : VoiceDef). def.id) (drop l.def-index l.voices) ≡ map (λ (def : VoiceDef). def.id) l.voices
