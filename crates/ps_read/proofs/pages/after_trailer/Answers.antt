use Rattle.std.proofs.Common.{ap, ◌∙◌}
use Rattle.{ps_text.specs.Document.{count_line}, ps_read.proofs.Stepping.{on_count}}
use Rattle.ps_read.proofs.pages.after_trailer.Goals as goal

pub returns-then-branch : goal.returns-then-branch
returns-then-branch c =
    on_count c.args.sheet c.args.raw.now (c.in_ok-is_count.ensures.0 c.if-branch.true ∙ ap count_line c.len.ensures)
