use Rattle.ps_read.proofs.Stepping.{on_closed}
use Rattle.ps_read.proofs.pages.after_items.Goals as goal

pub returns : goal.returns
returns c =
    on_closed c.args.page c.args.raw.now c.in_ok-sheet.sheet (c.is_text.ensures.0 c.if-not-is_text.false)
    c.in_ok-sheet.ensures
