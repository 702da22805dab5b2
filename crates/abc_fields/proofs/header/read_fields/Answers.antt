use Rattle.std.proofs.Common.{◌<◌, arith, length}
use Rattle.abc_fields.proofs.HeaderLaws.{stage_more}
use Rattle.abc_fields.proofs.header.read_fields.Goals as goal

pub loop-line-preserved : goal.loop-line-preserved
loop-line-preserved c =
    let inside : c.loop-line.line-index < length c.args.lines.now = omega arith in
    let read = rw c.in-Ok.is at c.in_ok-field.ensures in
    stage_more c.args.lines.now c.loop-line.line-index c.line-item.result c.loop-line.fields c.push.new.self
    c.loop-line.ids c.read_line.new.ids
    c.in-Ok.field inside c.line-item.is c.in_ok-push-in-Ok.ensures.ok read.field read.ids read.none read.good read.few
    c.loop-line.invariant
