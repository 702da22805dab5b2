use Rattle.std.{proofs.Common.{◌≡◌, rules, reverse, sym, subst}, specs.Prelude.Err}
use Rattle.ps_steps.specs.Operators.{curveto, with_six}
use Rattle.ps_machine.specs.Doing.{state_of, DidOrStopped}
use Rattle.ps_machine.proofs.Six.{six_stops}
use Rattle.ps_machine.proofs.drawing.curveto.Goals as goal

pub returns-in_err-bend : goal.returns-in_err-bend
returns-in_err-bend c =
    let is : c.from_residual.result ≡ Err c.in_err-bend.field-0.0 = search rules in
    subst (λ r.
    DidOrStopped (with_six (reverse c.args.m.now.stack.items) (state_of c.args.m.now) curveto) r
    (state_of (record c.args.m.now { stack = c.six.new.stack })))
    (sym is)
    (six_stops (reverse c.args.m.now.stack.items) (reverse c.six.new.stack.items) (state_of c.args.m.now)
    (state_of (record c.args.m.now { stack = c.six.new.stack })) c.in_err-bend.field-0.0 c.in_err-bend.ensures)

pub returns : goal.returns
returns c =
    subst (λ o. DidOrStopped o c.add_curve.result (state_of c.add_curve.new.m))
    (sym (c.in_ok-bend.ensures (state_of c.args.m.now) curveto)) c.add_curve.ensures
