use Rattle.ps_read.proofs.Stepping.{on_headed}
use Rattle.ps_read.proofs.pages.after_heading.Goals as goal

pub returns-then-is_text : goal.returns-then-is_text
returns-then-is_text c =
    on_headed c.args.sheet c.args.raw.now c.new.result (c.is_text.ensures.0 c.if-is_text.true) c.new.ensures
