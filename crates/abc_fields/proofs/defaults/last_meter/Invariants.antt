use Rattle.std.{proofs.Common.◌≡◌, proofs.Common.drop, specs.Prelude.IfSome, specs.Option.option_or}
use Rattle.{mus_units.specs.Good.{IsGoodMeter}, abc_field.specs.Last.{last_of}, abc_fields.specs.Defaults.{line_meter}}
use Rattle.abc_fields.proofs.defaults.last_meter.Given as goal

abbrev pub invariant-loop-line : goal.invariant-loop-line
invariant-loop-line l = record {
  value : option_or (last_of (line_meter) (drop l.line-index l.lines)) l.last ≡ last_of (line_meter) l.lines;
  good : IfSome l.last (λ m. IsGoodMeter m);
}
