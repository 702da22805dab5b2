use Rattle.std.proofs.Common.{◌≡◌, subst}
use Rattle.ps_steps.specs.Operators.{executed}
use Rattle.ps_steps.specs.declared.token.MachineToken.TheVariants.{Simple as simple_token}
use Rattle.ps_steps.specs.declared.token.SimpleToken.TheVariants.{Name as name_token}
use Rattle.ps_machine.specs.Doing.{state_of, IsExecuted}
use Rattle.ps_machine.proofs.execute.execute_simple.Goals as goal

pub returns-in-Name : goal.returns-in-Name
returns-in-Name c =
    let e : name_token c.as_slice-in-Name.result.now ≡ c.args.t.now = cc in
    subst (λ t.
    IsExecuted (executed (simple_token t) (state_of c.args.m.now)) c.args.calls.now c.execute_name.result
    (state_of c.execute_name.new.m) c.execute_name.new.calls)
    e c.execute_name.ensures
