use Rattle.std.proofs.Common.{rules, ◌++◌}
use Rattle.abc_lines.specs.Books.{joined}
use Rattle.abc_lines.specs.Lines.{readings}
use Rattle.abc_lines.proofs.LineLaws.{line_off}
use Rattle.abc_lines.proofs.Stages.{join-next, join-stops, join-ends}
use Rattle.abc_lines.proofs.cut.join.Goals as goal

pub returns-then-not-goes_on : goal.returns-then-not-goes_on
returns-then-not-goes_on c =
    let off = line_off c.lines.ahead.now c.first_line.result.0.now c.first_line.result.1.now (search rules)
    c.first_line.ensures in
    join-stops c.lines.out (c.args.out.now ++ joined (readings c.args.bytes.now)) c.lines.ahead.now _ _
    c.in_ok-reading.reading off c.in_ok-reading.ensures (search rules) c.lines.invariant

pub lines-preserved : goal.lines-preserved
lines-preserved c =
    let off = line_off c.lines.ahead.now c.first_line.result.0.now c.first_line.result.1.now (search rules)
    c.first_line.ensures in
    join-next c.lines.out c.add_joined.new.out (c.args.out.now ++ joined (readings c.args.bytes.now)) c.lines.ahead.now
    _ _ c.in_ok-reading.reading off c.in_ok-reading.ensures (search rules) c.in_ok-add_joined.ensures c.lines.invariant

pub lines-smaller : goal.lines-smaller
lines-smaller c =
    (line_off c.lines.ahead.now c.first_line.result.0.now c.first_line.result.1.now (search rules)
    c.first_line.ensures).shorter

pub returns : goal.returns
returns c =
    join-ends c.lines.out (c.args.out.now ++ joined (readings c.args.bytes.now)) c.lines.ahead.now (search rules)
    c.lines.invariant
