use Rattle.mus_stems.proofs.SlopeLaws.{line_goes}
use Rattle.mus_stems.proofs.slopes.put_beam.Goals as goal

pub put_line-requires-clause-line : goal.put_line-requires-clause-line
put_line-requires-clause-line c =
    (line_goes c.in-Some.first.now c.in-Some-split_first.second.now c.last_in.result c.args.beam.now
    c.in-Some.others.now c.in-Some-split_first.more.now c.line_between-line.result c.in-Some.ensures.cases.0
    c.in-Some-split_first.ensures.cases.0 c.last_in.ensures c.line_between-line.ensures c.requires.anchors
    c.requires.rise).0

pub put_line-requires-clause-over : goal.put_line-requires-clause-over
put_line-requires-clause-over c =
    (line_goes c.in-Some.first.now c.in-Some-split_first.second.now c.last_in.result c.args.beam.now
    c.in-Some.others.now c.in-Some-split_first.more.now c.line_between-line.result c.in-Some.ensures.cases.0
    c.in-Some-split_first.ensures.cases.0 c.last_in.ensures c.line_between-line.ensures c.requires.anchors
    c.requires.rise).1
