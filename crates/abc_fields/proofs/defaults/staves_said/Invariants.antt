use Rattle.std.{proofs.Common.◌≡◌, proofs.Common.drop, specs.Option.option_map, specs.Option.option_or}
use Rattle.{abc_field.specs.Last.{last_of}, abc_fields.specs.Defaults.{line_of, line_staves}}
use Rattle.abc_fields.proofs.defaults.staves_said.Given as goal

abbrev pub invariant-loop-line : goal.invariant-loop-line
invariant-loop-line l =
    option_or (last_of line_staves (drop l.line-index l.lines))
    (option_map (λ said. line_of said.number said.text.now) l.last)
    ≡ last_of line_staves l.lines
