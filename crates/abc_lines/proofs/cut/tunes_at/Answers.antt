use Rattle.std.proofs.Common.{rules, arith}
use Rattle.abc_lines.specs.Forward.{tunes_from}
use Rattle.abc_lines.specs.Lines.{readings}
use Rattle.abc_lines.proofs.LineLaws.{line_off}
use Rattle.abc_lines.proofs.Stages.{tunes-pass, tunes-next, tunes-end}
use Rattle.abc_lines.proofs.cut.tunes_at.Goals as goal

pub tune_at-requires : goal.tune_at-requires
tune_at-requires c =
    let off = line_off c.lines.at.rest.now c.first_line.result.0.now c.first_line.result.1.now (search rules)
    c.first_line.ensures in
    omega (arith, off.shorter, c.lines.invariant.within)

pub lines-preserved-then-begins_tune : goal.lines-preserved-then-begins_tune
lines-preserved-then-begins_tune c =
    let off = line_off c.lines.at.rest.now c.first_line.result.0.now c.first_line.result.1.now (search rules)
    c.first_line.ensures in
    tunes-next c.lines.tunes c.push.new.self (tunes_from 1 c.args.place.number (readings c.args.place.rest.now))
    c.len.result c.lines.at.number c.in_ok-tune.next.number c.lines.at.rest.now _ c.first_line.result.1.now
    c.in_ok-tune.next.rest.now c.in_ok-reading.reading c.in_ok-tune.tune
    off c.in_ok-reading.ensures (search rules) c.len.ensures c.in_ok-tune.ensures.tune c.in_ok-tune.ensures.rest
    c.in_ok-tune.ensures.within c.in_ok-tune.ensures.counted (search rules) c.lines.invariant

pub lines-smaller-then-begins_tune : goal.lines-smaller-then-begins_tune
lines-smaller-then-begins_tune c =
    let off = line_off c.lines.at.rest.now c.first_line.result.0.now c.first_line.result.1.now (search rules)
    c.first_line.ensures in
    omega (arith, off.shorter, c.in_ok-tune.ensures.further)

pub lines-preserved-else-begins_tune : goal.lines-preserved-else-begins_tune
lines-preserved-else-begins_tune c =
    let off = line_off c.lines.at.rest.now c.first_line.result.0.now c.first_line.result.1.now (search rules)
    c.first_line.ensures in
    tunes-pass c.lines.tunes (tunes_from 1 c.args.place.number (readings c.args.place.rest.now)) c.lines.at.number
    c.lines.at.rest.now _ _ c.in_ok-reading.reading off c.in_ok-reading.ensures (search rules) c.lines.invariant

pub lines-smaller-else-begins_tune : goal.lines-smaller-else-begins_tune
lines-smaller-else-begins_tune c =
    (line_off c.lines.at.rest.now c.first_line.result.0.now c.first_line.result.1.now (search rules)
    c.first_line.ensures).shorter

pub lines-preserved : goal.lines-preserved
lines-preserved c =
    let off = line_off c.lines.at.rest.now c.first_line.result.0.now c.first_line.result.1.now (search rules)
    c.first_line.ensures in
    tunes-pass c.lines.tunes (tunes_from 1 c.args.place.number (readings c.args.place.rest.now)) c.lines.at.number
    c.lines.at.rest.now _ _ c.in_ok-reading.reading off c.in_ok-reading.ensures (search rules) c.lines.invariant

pub lines-smaller : goal.lines-smaller
lines-smaller c =
    (line_off c.lines.at.rest.now c.first_line.result.0.now c.first_line.result.1.now (search rules)
    c.first_line.ensures).shorter

pub returns : goal.returns
returns c =
    tunes-end c.lines.tunes (tunes_from 1 c.args.place.number (readings c.args.place.rest.now)) c.lines.at.number
    c.lines.at.rest.now (search rules) c.lines.invariant
