use Rattle.std.proofs.{Common.{◌∷◌, ◌++◌, ◌∙◌, arith, codes, decimal}, lemmas.Option.none-some}
use Rattle.ps_text.specs.declared.prolog.TheConstants.{PAGE_START}
use Rattle.eng_lines.proofs.Words.{one_field, after_prefix}
use Rattle.ps_read.proofs.Forms.{page_form, after_bottom}
use Rattle.ps_read.proofs.prolog.scan_page_line.Goals as goal

pub returns-in_err-rest-clause-reported : goal.returns-in_err-rest-clause-reported
returns-in_err-rest-clause-reported c l b s ll lb ls e = absurd (c.in_err-rest.ensures _ (e ∙ page_form l b s))

pub returns-in_err-left-clause-reported : goal.returns-in_err-left-clause-reported
returns-in_err-left-clause-reported c l b s ll lb ls e =
    let t =
    after_prefix PAGE_START.now c.args.raw.now c.in_ok-rest.rest.now _ c.in_ok-rest.ensures (e ∙ page_form l b s) in
    absurd (c.in_err-left.ensures l _ ll t)

pub returns-in_err-bottom-clause-reported : goal.returns-in_err-bottom-clause-reported
returns-in_err-bottom-clause-reported c l b s ll lb ls e =
    let r2 = codes "translate " ++ after_bottom s in
    let t =
    after_prefix PAGE_START.now c.args.raw.now c.in_ok-rest.rest.now _ c.in_ok-rest.ensures (e ∙ page_form l b s) in
    let x = c.in_ok-left.ensures in
    let m = one_field c.in_ok-left.left l c.in_ok-rest.rest.now c.in_ok-left.rest.now (decimal b ++ (32 ∷ r2))
    (omega (arith, x)) (omega (arith, ll)) x.0 t in
    absurd (c.in_err-bottom.ensures b r2 lb m.1)

pub returns-in_err-rest-2-clause-reported : goal.returns-in_err-rest-2-clause-reported
returns-in_err-rest-2-clause-reported c l b s ll lb ls e =
    let r2 = codes "translate " ++ after_bottom s in
    let t =
    after_prefix PAGE_START.now c.args.raw.now c.in_ok-rest.rest.now _ c.in_ok-rest.ensures (e ∙ page_form l b s) in
    let x = c.in_ok-left.ensures in
    let m = one_field c.in_ok-left.left l c.in_ok-rest.rest.now c.in_ok-left.rest.now (decimal b ++ (32 ∷ r2))
    (omega (arith, x)) (omega (arith, ll)) x.0 t in
    let y = c.in_ok-bottom.ensures in
    let n = one_field c.in_ok-bottom.bottom b c.in_ok-left.rest.now c.in_ok-bottom.rest.now r2 (omega (arith, y))
    (omega (arith, lb)) y.0 m.1 in
    absurd (c.in_err-rest-2.ensures (after_bottom s) n.1)

pub returns-in_err-scale-clause-reported : goal.returns-in_err-scale-clause-reported
returns-in_err-scale-clause-reported c l b s ll lb ls e =
    let r2 = codes "translate " ++ after_bottom s in
    let t =
    after_prefix PAGE_START.now c.args.raw.now c.in_ok-rest.rest.now _ c.in_ok-rest.ensures (e ∙ page_form l b s) in
    let x = c.in_ok-left.ensures in
    let m = one_field c.in_ok-left.left l c.in_ok-rest.rest.now c.in_ok-left.rest.now (decimal b ++ (32 ∷ r2))
    (omega (arith, x)) (omega (arith, ll)) x.0 t in
    let y = c.in_ok-bottom.ensures in
    let n = one_field c.in_ok-bottom.bottom b c.in_ok-left.rest.now c.in_ok-bottom.rest.now r2 (omega (arith, y))
    (omega (arith, lb)) y.0 m.1 in
    let k = after_prefix (codes "translate ") c.in_ok-bottom.rest.now c.in_ok-rest-2.rest.now (after_bottom s)
    c.in_ok-rest-2.ensures n.1 in
    absurd (none-some s (c.in_err-scale.ensures s _ ls k))

pub returns-clause-reported : goal.returns-clause-reported
returns-clause-reported c l b s ll lb ls e =
    let r2 = codes "translate " ++ after_bottom s in
    let t =
    after_prefix PAGE_START.now c.args.raw.now c.in_ok-rest.rest.now _ c.in_ok-rest.ensures (e ∙ page_form l b s) in
    let x = c.in_ok-left.ensures in
    let m = one_field c.in_ok-left.left l c.in_ok-rest.rest.now c.in_ok-left.rest.now (decimal b ++ (32 ∷ r2))
    (omega (arith, x)) (omega (arith, ll)) x.0 t in
    let y = c.in_ok-bottom.ensures in
    let n = one_field c.in_ok-bottom.bottom b c.in_ok-left.rest.now c.in_ok-bottom.rest.now r2 (omega (arith, y))
    (omega (arith, lb)) y.0 m.1 in
    let k = after_prefix (codes "translate ") c.in_ok-bottom.rest.now c.in_ok-rest-2.rest.now (after_bottom s)
    c.in_ok-rest-2.ensures n.1 in
    let last = c.in_ok-scale.ensures s _ ls k in grind (arith, m, n, last)
