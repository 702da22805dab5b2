use Rattle.std.proofs.Common.{rules}
use Rattle.abc_lines.proofs.LineLaws.{line_off}
use Rattle.abc_lines.proofs.Stages.{part-begins, part-next, part-stops, part-ends}
use Rattle.abc_lines.proofs.cut.add_part.Goals as goal

pub lines-init : goal.lines-init
lines-init c = part-begins _ _ _

pub returns-then-is_end_of_part-clause-lines : goal.returns-then-is_end_of_part-clause-lines
returns-then-is_end_of_part-clause-lines c =
    let off = line_off c.lines.at.rest.now c.first_line.result.0.now c.first_line.result.1.now (search rules)
    c.first_line.ensures in
    part-stops c.args.out.now c.lines.out c.args.place.number c.lines.at.number c.args.place.rest.now
    c.lines.at.rest.now _ _ c.in_ok-reading.reading off c.in_ok-reading.ensures (search rules) c.lines.invariant

pub lines-preserved : goal.lines-preserved
lines-preserved c =
    let off = line_off c.lines.at.rest.now c.first_line.result.0.now c.first_line.result.1.now (search rules)
    c.first_line.ensures in
    part-next c.args.out.now c.lines.out c.add_line.new.out c.args.place.number c.lines.at.number c.args.place.rest.now
    c.lines.at.rest.now _ _ c.in_ok-reading.reading off c.in_ok-reading.ensures (search rules) c.in_ok-add_line.ensures
    c.lines.invariant

pub lines-smaller : goal.lines-smaller
lines-smaller c =
    (line_off c.lines.at.rest.now c.first_line.result.0.now c.first_line.result.1.now (search rules)
    c.first_line.ensures).shorter

pub returns-clause-lines : goal.returns-clause-lines
returns-clause-lines c =
    part-ends c.args.out.now c.lines.out c.args.place.number c.lines.at.number c.args.place.rest.now c.lines.at.rest.now
    (search rules) c.lines.invariant
