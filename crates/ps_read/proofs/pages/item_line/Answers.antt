use Rattle.std.proofs.Common.{◌++◌, sym, ◌∙◌, ap, arith, codes, decimal, true≢false}
use Rattle.ps_read.proofs.Stepping.{on_grestore, on_tune, none_tune_zero, from_system}
use Rattle.ps_read.proofs.pages.item_line.Goals as goal

pub returns-then-is_text : goal.returns-then-is_text
returns-then-is_text c = on_grestore c.args.page c.args.raw.now (c.is_text.ensures.0 c.if-is_text.true)

pub returns-in-Some-eq0 : goal.returns-in-Some-eq0
returns-in-Some-eq0 c =
    none_tune_zero c.args.page c.args.raw.now
    (c.in-Some-eq0.ensures.0 ∙ ap (λ n. codes "% tune " ++ decimal n) c.in-Some-eq0.field-0-test)

pub returns-in_ok-page-in-Some : goal.returns-in_ok-page-in-Some
returns-in_ok-page-in-Some c =
    let k = c.in-Some.ensures in
    let t = c.in-Some.ordinal-test in
    on_tune c.args.page c.args.raw.now c.in-Some.ordinal c.in_ok-page-in-Some.page k.0 k.1 (omega (arith, t))
    c.in_ok-page-in-Some.ensures

pub returns-in-None : goal.returns-in-None
returns-in-None c =
    from_system c.args.page c.args.raw.now c.system_line.result
    (λ e. true≢false (sym (c.is_text.ensures.1 e) ∙ c.if-is_text.false))
    (λ a l q. c.in-None.ensures a l q) c.system_line.ensures
