use Rattle.std.proofs.{Common.sym, Common.◌∙◌, Common.arith, lemmas.Fmt.decimal_injective}
use Rattle.eng_lines.proofs.numbers.small_number.Goals as goal

pub returns-in_default : goal.returns-in_default
returns-in_default c n l e =
    let x = c.in-Some.ensures in
    let is = decimal_injective n c.in-Some.number (omega arith) x.1 (sym e ∙ x.0) in
    let over = c.if-number.false in
    omega arith
