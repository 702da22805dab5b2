use Rattle.std.{proofs.Common.◌≡◌, proofs.Common.drop, specs.Option.option_or}
use Rattle.{abc_field.specs.Last.{last_of}, abc_fields.specs.Defaults.{line_spread}}
use Rattle.abc_fields.proofs.defaults.last_spread.Given as goal

abbrev pub invariant-loop-line : goal.invariant-loop-line
invariant-loop-line l =
    option_or (last_of (line_spread) (drop l.line-index l.lines)) l.last ≡ last_of (line_spread) l.lines
