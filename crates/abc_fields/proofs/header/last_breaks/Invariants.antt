use Rattle.std.{proofs.Common.◌≡◌, proofs.Common.drop, specs.Option.option_or}
use Rattle.{abc_field.specs.Last.{last_of}, abc_fields.specs.Headers.{breaks_in}}
use Rattle.abc_fields.proofs.header.last_breaks.Given as goal

abbrev pub invariant-loop-field : goal.invariant-loop-field
invariant-loop-field l =
    option_or (last_of (breaks_in) (drop l.field-index l.fields)) l.last ≡ last_of (breaks_in) l.fields
