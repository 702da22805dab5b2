use Rattle.std.proofs.Common.{◌≡◌, ◌≤◌, rules, arith, sym, subst, length, reverse}
use Rattle.std.proofs.lemmas.List.{length-reverse}
use Rattle.std.specs.Prelude.{Err}
use Rattle.ps_machine.{specs.Doing.IsSix, proofs.Six.end_stops, proofs.Six.second_stops, proofs.Six.first_stops}
use Rattle.ps_machine.proofs.operands.six.Goals as goal

pub returns-in_err-end : goal.returns-in_err-end
returns-in_err-end c =
    let l : 6 ≤ length (reverse c.args.stack.now.items) =
    grind (arith, length-reverse c.args.stack.now.items, c.len.ensures, c.if-len-lt6.false) in
    let is : c.from_residual.result ≡ Err c.in_err-end.field-0.0 = search rules in
    subst (λ r. IsSix (reverse c.args.stack.now.items) r (reverse c.point_of_six.new.stack.items)) (sym is)
    (end_stops (reverse c.args.stack.now.items) (reverse c.point_of_six.new.stack.items)
    (reverse c.point_of_six.new.stack.items) c.in_err-end.field-0.0 l c.in_err-end.ensures)

pub returns-in_err-second : goal.returns-in_err-second
returns-in_err-second c =
    let l : 6 ≤ length (reverse c.args.stack.now.items) =
    grind (arith, length-reverse c.args.stack.now.items, c.len.ensures, c.if-len-lt6.false) in
    let is : c.from_residual-in_err-second.result ≡ Err c.in_err-second.field-0.0 = search rules in
    subst (λ r. IsSix (reverse c.args.stack.now.items) r (reverse c.point_of_six-2.new.stack.items)) (sym is)
    (second_stops (reverse c.args.stack.now.items) (reverse c.point_of_six.new.stack.items)
    (reverse c.point_of_six-2.new.stack.items) (reverse c.point_of_six-2.new.stack.items) c.in_ok-end.end
    c.in_err-second.field-0.0 l c.in_ok-end.ensures c.in_err-second.ensures)

pub returns-in_err-first : goal.returns-in_err-first
returns-in_err-first c =
    let l : 6 ≤ length (reverse c.args.stack.now.items) =
    grind (arith, length-reverse c.args.stack.now.items, c.len.ensures, c.if-len-lt6.false) in
    let is : c.from_residual-in_err-first.result ≡ Err c.in_err-first.field-0.0 = search rules in
    subst (λ r. IsSix (reverse c.args.stack.now.items) r (reverse c.point_of_six-3.new.stack.items)) (sym is)
    (first_stops (reverse c.args.stack.now.items) (reverse c.point_of_six.new.stack.items)
    (reverse c.point_of_six-2.new.stack.items) (reverse c.point_of_six-3.new.stack.items)
    (reverse c.point_of_six-3.new.stack.items) c.in_ok-end.end c.in_ok-second.second c.in_err-first.field-0.0 l
    c.in_ok-end.ensures c.in_ok-second.ensures c.in_err-first.ensures)
