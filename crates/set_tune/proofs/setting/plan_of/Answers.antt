use Rattle.std.proofs.Common.{◌≡◌, IfOk, Some, rules, subst}
use Rattle.lay_shared.specs.{declared.plan.Plan.Plan, Plans.{SpellsPlan, score_ids}}
use Rattle.set_tune.proofs.setting.plan_of.Goals as goal

pub returns-clause-only : goal.returns-clause-only
returns-clause-only c =
    let ids : c.as_slice-2.result.now ≡ score_ids c.args.written.now = search rules in
    let text : c.as_slice.result.now ≡ c.args.line.now.text = search rules in
    subst (λ i.
    IfOk c.read_plan.result (λ read. (plan : Plan) → SpellsPlan i c.args.line.now.text plan → read ≡ Some plan))
    ids
    (subst (λ t.
    IfOk c.read_plan.result (λ read. (plan : Plan) → SpellsPlan c.as_slice-2.result.now t plan → read ≡ Some plan))
    text c.read_plan.ensures.only)
