use Rattle.std.{proofs.Common.◌≡◌, proofs.Common.◌≤◌, proofs.Common.drop, specs.Prelude.IfSome, specs.Option.option_or}
use Rattle.{abc_field.specs.Last.{last_of}, abc_fields.specs.Papers.{line_scale}}
use Rattle.abc_fields.proofs.paper.last_scale.Given as goal

abbrev pub invariant-loop-line : goal.invariant-loop-line
invariant-loop-line l = record {
  value : option_or (last_of (line_scale) (drop l.line-index l.lines)) l.last ≡ last_of (line_scale) l.lines;
  low : IfSome l.last (λ v. 40 ≤ v);
  high : IfSome l.last (λ v. v ≤ 150);
}
