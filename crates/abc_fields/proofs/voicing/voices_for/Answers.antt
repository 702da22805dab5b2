use Rattle.std.proofs.Common.{◌∙◌, ap, arith, length, ◌<◌}
use Rattle.abc_fields.{specs.Voicing.voice_from, proofs.VoiceLaws.voices-more}
use Rattle.abc_fields.proofs.voicing.voices_for.Goals as goal

pub loop-id-preserved : goal.loop-id-preserved
loop-id-preserved c =
    let inside : c.loop-id.id-index < length c.args.ids.now = omega arith in
    voices-more (λ id. voice_from c.args.fields.now id.items) c.args.ids.now c.loop-id.id-index c.id-item.result
    c.loop-id.voices c.push.new.self
    c.in_ok-voice_from.field-0 inside c.id-item.is c.in_ok-push.ensures.ok
    (c.in_ok-voice_from.ensures ∙ ap (voice_from c.args.fields.now) c.as_slice.ensures.value)
    c.loop-id.invariant
