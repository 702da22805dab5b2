use Rattle.std.{proofs.Common.◌≡◌, proofs.Common.drop, specs.Option.option_or, specs.Option.option_copied}
use Rattle.{abc_field.specs.Last.{last_of}, abc_fields.specs.Headers.{key_in}}
use Rattle.abc_fields.proofs.header.last_key.Given as goal

abbrev pub invariant-loop-field : goal.invariant-loop-field
invariant-loop-field l =
    option_or (last_of (key_in) (drop l.field-index l.fields)) (option_copied l.last) ≡ last_of (key_in) l.fields
