use Rattle.std.proofs.Common.{decimal, sym, ◌∙◌, arith, inl}
use Rattle.eng_lines.proofs.Words.{one_cut, lacks_none, decimal_lacks}
use Rattle.eng_lines.proofs.numbers.number_and_rest.Goals as goal

pub returns-in_err-start : goal.returns-in_err-start
returns-in_err-start c =
    rw c.from_residual.ensures (λ n rest l e. lacks_none 32 (decimal n) rest c.args.bytes.now c.in_err-start.ensures e)

pub returns-in_err-small_number : goal.returns-in_err-small_number
returns-in_err-small_number c = rw c.from_residual-in_err-small_number.ensures (λ n rest l e.
    let v = c.in_ok-start.ensures in
    let m = one_cut 32 c.in_ok-start.start.now (decimal n) c.in_ok-start.rest.now rest v.1
    (decimal_lacks 32 n (inl (omega arith)) (omega arith)) (sym v.0 ∙ e) in
    c.in_err-small_number.ensures n l m.0)
