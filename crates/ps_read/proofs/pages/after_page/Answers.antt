use Rattle.std.proofs.Common.{◌<◌, ◌+◌, ◌^◌, ap, ◌∙◌, subst}
use Rattle.{ps_text.specs.Document.{heading_line}, ps_read.proofs.Stepping.{on_trailer, on_heading}}
use Rattle.ps_read.proofs.pages.after_page.Goals as goal

pub returns-then-is_text : goal.returns-then-is_text
returns-then-is_text c = on_trailer c.args.sheet c.args.raw.now (c.is_text.ensures.0 c.if-is_text.true)

pub returns-then-branch : goal.returns-then-branch
returns-then-branch c =
    let h = c.in_ok-is_next_heading.ensures.0 c.if-branch.true in
    on_heading c.args.sheet c.args.raw.now (h.1 ∙ ap (λ n. heading_line (n + 1)) c.len.ensures)
    (subst (λ n. n + 1 < 2 ^ 32) c.len.ensures h.0)
