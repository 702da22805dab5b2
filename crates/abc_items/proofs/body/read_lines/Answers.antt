use Rattle.std.proofs.Common.{[], arith, length, ◌<◌}
use Rattle.abc_items.specs.Body.{no_lines}
use Rattle.abc_items.proofs.Laws.{reads_nothing, lines_more, lines_stop, size_after}
use Rattle.abc_items.proofs.body.read_lines.Goals as goal

pub loop-line-init : goal.loop-line-init
loop-line-init c = record {
  reads = record { given = []; gives_so = no_lines; reads = reads_nothing c.args.body.now };
  good = c.requires.before;
  small = c.requires.lines;
}

pub loop-line-preserved : goal.loop-line-preserved
loop-line-preserved c =
    let inside : c.loop-line.line-index < length c.args.lines.now = omega arith in
    record {
      reads =
          lines_more c.args.breaks c.args.lines.now c.loop-line.line-index c.line-item.result c.args.body.now
          c.loop-line.body c.read_line.new.body inside c.line-item.is c.loop-line.invariant.reads c.in-Ok.ensures.reads;
      good = c.in-Ok.ensures.good;
      small =
          (size_after c.args.lines.now c.loop-line.line-index c.line-item.result inside c.line-item.is
          c.loop-line.invariant.small).1;
    }

pub returns-in-Err-clause-stops : goal.returns-in-Err-clause-stops
returns-in-Err-clause-stops c =
    let inside : c.loop-line.line-index < length c.args.lines.now = omega arith in
    lines_stop c.args.breaks c.args.lines.now c.loop-line.line-index c.line-item.result c.args.body.now c.loop-line.body
    c.in-Err.e inside c.line-item.is c.loop-line.invariant.reads c.in-Err.ensures.stops
