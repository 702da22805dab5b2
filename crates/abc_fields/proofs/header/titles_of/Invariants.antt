use Rattle.std.{proofs.Common.◌≡◌, proofs.Common.◌++◌, proofs.Common.drop, specs.List.filter_map}
use Rattle.abc_fields.specs.Headers.{title_in}
use Rattle.abc_fields.proofs.header.titles_of.Given as goal

abbrev pub invariant-loop-field : goal.invariant-loop-field
invariant-loop-field l = l.titles ++ filter_map title_in (drop l.field-index l.fields) ≡ filter_map title_in l.fields
