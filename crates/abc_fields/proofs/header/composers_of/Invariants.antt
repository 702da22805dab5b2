use Rattle.std.{proofs.Common.◌≡◌, proofs.Common.◌++◌, proofs.Common.drop, specs.List.filter_map}
use Rattle.abc_fields.specs.Headers.{composer_in}
use Rattle.abc_fields.proofs.header.composers_of.Given as goal

abbrev pub invariant-loop-field : goal.invariant-loop-field
invariant-loop-field l =
    l.composers ++ filter_map composer_in (drop l.field-index l.fields) ≡ filter_map composer_in l.fields
