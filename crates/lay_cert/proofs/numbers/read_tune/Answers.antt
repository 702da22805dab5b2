use Rattle.std.proofs.Common.{◌++◌, ◌∷◌, codes, decimal, ◌∙◌, arith}
use Rattle.{lay_cert.proofs.Forms.{tune_text}, eng_lines.proofs.Words.{one_field, after_prefix}}
use Rattle.lay_cert.proofs.numbers.read_tune.Goals as goal

pub returns-in_err-number_after : goal.returns-in_err-number_after
returns-in_err-number_after c = rw c.from_residual-in_err-number_after.ensures (λ tune bars lt lb e.
    let t = after_prefix (codes "tune ") c.args.bytes.now c.in_ok-rest.rest.now
    (decimal tune ++ (32 ∷ (codes "measures " ++ decimal bars))) c.in_ok-rest.ensures (e ∙ tune_text tune bars) in
    let x = c.in_ok-tune.ensures in
    let m = one_field c.in_ok-tune.tune tune c.in_ok-rest.rest.now c.in_ok-tune.rest.now
    (codes "measures " ++ decimal bars) (omega (arith, x)) (omega arith) x.0 t in
    c.in_err-number_after.ensures bars lb m.1)
