use Rattle.std.proofs.Common.{◌∙◌, ap, arith, get_or, length}
use Rattle.ps_read.proofs.Forms.{percent_bytes}
use Rattle.ps_read.proofs.prolog.scan_percent.Goals as goal

pub returns-in-len4-up : goal.returns-in-len4-up
returns-in-len4-up c p rest l e =
    let k = e ∙ percent_bytes p rest l in
    c.percent_of.ensures p l (ap (λ s. get_or s 0 0) k) (ap (λ s. get_or s 2 0) k) (ap (λ s. get_or s 3 0) k)

pub returns-in_default : goal.returns-in_default
returns-in_default c p rest l e =
    let n = ap length (e ∙ percent_bytes p rest l) in let few = c.in_default.len_below in absurd (omega (arith, n, few))
