use Rattle.abc_lines.proofs.LineLaws.{latin-text, latin-other}
use Rattle.abc_lines.proofs.reading.in_latin.Goals as goal

pub returns-in_ok-narrowed-in-Ok : goal.returns-in_ok-narrowed-in-Ok
returns-in_ok-narrowed-in-Ok c =
    let is = c.in-Ok.ensures.cases in rw (latin-text c.args.line.now is.1, ← is.0) c.in_ok-narrowed-in-Ok.ensures

pub returns-in-Err : goal.returns-in-Err
returns-in-Err c = rw (latin-other c.args.line.now c.in-Err.ensures.cases.0) c.from_slice.ensures
