use Rattle.abc_fields.proofs.HeaderLaws.{Stage}
use Rattle.abc_fields.proofs.header.read_fields.Given as goal

abbrev pub invariant-loop-line : goal.invariant-loop-line
invariant-loop-line l = Stage l.lines l.line-index l.fields l.ids
