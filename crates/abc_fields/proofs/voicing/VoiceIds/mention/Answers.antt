use Rattle.std.proofs.Common.{◌∙◌, ap, map}
use Rattle.abc_fields.{specs.Voicing.with_id, proofs.VoiceLaws.names_insert}
use Rattle.abc_fields.proofs.voicing.VoiceIds.mention.Goals as goal

pub returns : goal.returns
returns c =
    ap (λ ks. map (λ id. id.items) ks) c.in_ok-insert.ensures.keys
    ∙ names_insert (λ id. id.items) c.self.inside.set.keys c.in_ok-key.key
    ∙ ap (λ ids. with_id ids c.in_ok-key.key.items) c.self.view_is
    ∙ ap (λ id. with_id c.args.self.now id) c.in_ok-key.ensures.items
