use Rattle.std.proofs.Common.{◌+◌, not, sym, ◌∙◌, ap, true≢false}
use Rattle.{ps_text.specs.Document.{staff_line}, ps_read.proofs.Stepping.{on_next_staff, none_next_staff}}
use Rattle.ps_read.proofs.systems.after_last_mark.Goals as goal

pub returns-then-is_none : goal.returns-then-is_none
returns-then-is_none c =
    none_next_staff c.args.system c.args.staff c.args.raw.now
    (c.in_ok-is_next_staff.ensures.0 c.if-not-branch.false ∙ ap (λ n. staff_line (n + 1)) c.len.ensures)
    (λ some. true≢false (sym some ∙ (c.is_none.ensures ∙ ap not c.if-is_none.true)))

pub returns : goal.returns
returns c =
    on_next_staff c.args.system c.args.staff c.args.raw.now c.in_ok-system_with_staff.field-0
    (c.in_ok-is_next_staff.ensures.0 c.if-not-branch.false ∙ ap (λ n. staff_line (n + 1)) c.len.ensures)
    (c.is_none.ensures ∙ ap not c.if-is_none.false) c.in_ok-system_with_staff.ensures
