use Rattle.std.proofs.Common.{◌≡◌, ◌++◌, drop, map}
use Rattle.abc_fields.specs.Voicing.{voice_from}
use Rattle.abc_fields.proofs.voicing.voices_for.Given as goal

abbrev pub invariant-loop-id : goal.invariant-loop-id
invariant-loop-id l =
    l.voices ++ map (λ id. voice_from l.fields id.items) (drop l.id-index l.ids)
    ≡ map (λ id. voice_from l.fields id.items) l.ids
