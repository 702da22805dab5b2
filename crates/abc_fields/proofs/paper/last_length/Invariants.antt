use Rattle.std.{proofs.Common.◌≡◌, proofs.Common.◌≤◌, proofs.Common.drop, specs.Prelude.IfSome, specs.Option.option_or}
use Rattle.{abc_field.specs.Last.{last_of}, abc_fields.specs.Papers.{line_length}}
use Rattle.abc_fields.proofs.paper.last_length.Given as goal

abbrev pub invariant-loop-line : goal.invariant-loop-line
invariant-loop-line l = record {
  value : option_or (last_of (line_length l.name) (drop l.line-index l.lines)) l.last
      ≡ last_of (line_length l.name) l.lines;
  small : IfSome l.last (λ u. u ≤ 100000);
}
