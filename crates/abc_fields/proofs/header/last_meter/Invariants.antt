use Rattle.std.{proofs.Common.◌≡◌, proofs.Common.drop, specs.Option.option_or}
use Rattle.{abc_field.specs.Last.{last_of}, abc_fields.specs.Headers.{meter_in}}
use Rattle.abc_fields.proofs.header.last_meter.Given as goal

abbrev pub invariant-loop-field : goal.invariant-loop-field
invariant-loop-field l =
    option_or (last_of (meter_in) (drop l.field-index l.fields)) l.last ≡ last_of (meter_in) l.fields
