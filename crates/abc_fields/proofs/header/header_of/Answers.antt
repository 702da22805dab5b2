use Rattle.std.proofs.Common.{◌≡◌, ◌≤◌, ◌∙◌, ap, subst, sym, map, length}
use Rattle.abc_fields.specs.{Voicing.{voice_from, ids_of, voices_of}, Headers.AreDistinct}
use Rattle.abc_fields.proofs.HeaderLaws.{voices-distinct, voices-few}
use Rattle.abc_fields.proofs.header.header_of.Goals as goal

pub returns-clause-good : goal.returns-clause-good
returns-clause-good c =
    let fields = c.as_slice-fields.result.now in
    let ids = c.requires.ids ∙ ap ids_of (sym c.as_slice-fields.ensures) in
    let made : c.in_ok-voices_of.field-0 ≡ voices_of fields =
    c.in_ok-voices_of.ensures ∙ ap (λ ids. map (voice_from fields) ids) ids in
    let few : length (ids_of fields) ≤ 16 = subst (λ ids. length ids ≤ 16) ids c.requires.few in
    record {
      key = c.in_ok-key_of.ensures.good;
      meter = c.meter_from-meter.ensures.good;
      unit = c.unit_from.ensures.good;
      few = subst (λ vs. length vs ≤ 16) (sym made) (voices-few fields few);
      distinct = subst AreDistinct (sym made) (voices-distinct fields);
    }
