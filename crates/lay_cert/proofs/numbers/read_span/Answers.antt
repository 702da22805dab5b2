use Rattle.std.proofs.Common.{◌++◌, ◌∷◌, codes, decimal, ◌∙◌, arith}
use Rattle.{lay_cert.proofs.Forms.{span_text}, eng_lines.proofs.Words.{one_field, after_prefix}}
use Rattle.lay_cert.proofs.numbers.read_span.Goals as goal

pub returns-in_err-b : goal.returns-in_err-b
returns-in_err-b c = rw c.from_residual-in_err-b.ensures (λ s la lb lc e.
    let t = after_prefix (codes "span ") c.args.bytes.now c.in_ok-rest.rest.now
    (decimal s.a ++ (32 ∷ (decimal s.b ++ (32 ∷ decimal s.badness)))) c.in_ok-rest.ensures (e ∙ span_text s) in
    let x = c.in_ok-a.ensures in
    let m = one_field c.in_ok-a.a s.a c.in_ok-rest.rest.now c.in_ok-a.rest.now (decimal s.b ++ (32 ∷ decimal s.badness))
    (omega (arith, x)) (omega arith) x.0 t in
    c.in_err-b.ensures s.b (decimal s.badness) lb m.1)

pub returns-in_err-badness : goal.returns-in_err-badness
returns-in_err-badness c = rw c.from_residual-in_err-badness.ensures (λ s la lb lc e.
    let t = after_prefix (codes "span ") c.args.bytes.now c.in_ok-rest.rest.now
    (decimal s.a ++ (32 ∷ (decimal s.b ++ (32 ∷ decimal s.badness)))) c.in_ok-rest.ensures (e ∙ span_text s) in
    let x = c.in_ok-a.ensures in
    let m = one_field c.in_ok-a.a s.a c.in_ok-rest.rest.now c.in_ok-a.rest.now (decimal s.b ++ (32 ∷ decimal s.badness))
    (omega (arith, x)) (omega arith) x.0 t in
    let y = c.in_ok-b.ensures in
    let k = one_field c.in_ok-b.b s.b c.in_ok-a.rest.now c.in_ok-b.rest.now (decimal s.badness) (omega (arith, y))
    (omega arith) y.0 m.1 in
    c.in_err-badness.ensures s.badness lc k.1)
