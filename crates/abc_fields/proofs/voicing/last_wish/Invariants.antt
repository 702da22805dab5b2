use Rattle.std.{proofs.Common.◌≡◌, proofs.Common.drop, specs.Option.option_or}
use Rattle.{abc_field.specs.Last.{last_of}, abc_fields.specs.Voicing.{wish_for}}
use Rattle.abc_fields.proofs.voicing.last_wish.Given as goal

abbrev pub invariant-loop-field : goal.invariant-loop-field
invariant-loop-field l =
    option_or (last_of (wish_for l.id) (drop l.field-index l.fields)) l.last ≡ last_of (wish_for l.id) l.fields
