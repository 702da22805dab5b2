use Rattle.std.proofs.Common.{◌++◌, ◌∷◌, decimal, ◌∙◌, arith}
use mathlib.Core.List.{append_assoc}
use Rattle.eng_lines.proofs.Words.{one_field, after_prefix}
use Rattle.eng_lines.proofs.numbers.numbers_after.Goals as goal

pub returns-in_err-a : goal.returns-in_err-a
returns-in_err-a c = rw c.from_residual-in_err-a.ensures (λ a b la lb e.
    let t = after_prefix c.args.prefix.now c.args.bytes.now c.in_ok-rest.rest.now (decimal a ++ 32 ∷ decimal b)
    c.in_ok-rest.ensures (e ∙ append_assoc c.args.prefix.now (decimal a) (32 ∷ decimal b)) in
    c.in_err-a.ensures a (decimal b) la t)

pub returns-in_err-b : goal.returns-in_err-b
returns-in_err-b c = rw c.from_residual-in_err-b.ensures (λ a b la lb e.
    let t = after_prefix c.args.prefix.now c.args.bytes.now c.in_ok-rest.rest.now (decimal a ++ 32 ∷ decimal b)
    c.in_ok-rest.ensures (e ∙ append_assoc c.args.prefix.now (decimal a) (32 ∷ decimal b)) in
    let x = c.in_ok-a.ensures in
    let m = one_field c.in_ok-a.a a c.in_ok-rest.rest.now c.in_ok-a.rest.now (decimal b) (omega (arith, x))
    (omega arith) x.0 t in
    c.in_err-b.ensures b lb m.1)
