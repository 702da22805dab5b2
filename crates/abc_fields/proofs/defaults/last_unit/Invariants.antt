use Rattle.std.{proofs.Common.◌≡◌, proofs.Common.drop, specs.Option.option_or}
use Rattle.{abc_fields.specs.{Good.GoodUnitIn, Defaults.line_unit}, abc_field.specs.Last.{last_of}}
use Rattle.abc_fields.proofs.defaults.last_unit.Given as goal

abbrev pub invariant-loop-line : goal.invariant-loop-line
invariant-loop-line l = record {
  value : option_or (last_of (line_unit) (drop l.line-index l.lines)) l.last ≡ last_of (line_unit) l.lines;
  good : GoodUnitIn l.last;
}
