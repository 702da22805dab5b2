use Rattle.std.{proofs.Common.{◌≡◌, ◌∙◌, ap, map, subst}, specs.Prelude.IfOk}
use Rattle.abc_fields.{specs.Voicing.voice_from, proofs.VoiceLaws.voices_by_key}
use Rattle.abc_fields.proofs.voicing.voices_of.Goals as goal

pub returns : goal.returns
returns c =
    subst (λ vs. IfOk c.voices_for.result (λ row. row ≡ vs))
    (ap (λ ks. map (λ id. voice_from c.args.fields.now id.items) ks) c.as_slice.ensures.keys
    ∙ voices_by_key (λ id. id.items) c.args.fields.now c.ids.inside.set.keys
    ∙ ap (λ ids. map (voice_from c.args.fields.now) ids) c.ids.view_is)
    c.voices_for.ensures
