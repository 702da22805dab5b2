use Rattle.std.proofs.{Common.{◌≡◌, ◌∙◌, sym, subst, length, IfSome, Some, []}, lemmas.Result.IfOk-weaker}
use Rattle.lay_shared.specs.declared.plan.Plan.{Plan}
use Rattle.lay_shared.specs.Plans.{IsPlanFor, SpellsPlan}
use Rattle.lay_shared.specs.Reading.{plan_by, plan_signs_from}
use Rattle.lay_shared.proofs.PlanLaws.{read-good, read-spells, spelled-read}
use Rattle.lay_shared.proofs.plan.read_plan.Goals as goal

pub returns-clause-spells : goal.returns-clause-spells
returns-clause-spells c =
    IfOk-weaker c.read_by.result (λ read. read ≡ plan_by (plan_signs_from c.args.ids.now [] c.args.text.now))
    (λ read. IfSome read (SpellsPlan c.args.ids.now c.args.text.now))
    (λ read e.
    subst (λ r. IfSome r (SpellsPlan c.args.ids.now c.args.text.now)) (sym e)
    (read-spells c.args.ids.now c.args.text.now))
    c.read_by.ensures

pub returns-clause-only : goal.returns-clause-only
returns-clause-only c =
    IfOk-weaker c.read_by.result (λ read. read ≡ plan_by (plan_signs_from c.args.ids.now [] c.args.text.now))
    (λ read. (plan : Plan) → SpellsPlan c.args.ids.now c.args.text.now plan → read ≡ Some plan)
    (λ read e plan spells. e ∙ spelled-read c.args.ids.now c.args.text.now plan c.requires.apart spells)
    c.read_by.ensures

pub returns-clause-good : goal.returns-clause-good
returns-clause-good c =
    IfOk-weaker c.read_by.result (λ read. read ≡ plan_by (plan_signs_from c.args.ids.now [] c.args.text.now))
    (λ read. IfSome read (IsPlanFor (length c.args.ids.now)))
    (λ read e.
    subst (λ r. IfSome r (IsPlanFor (length c.args.ids.now))) (sym e) (read-good c.args.ids.now c.args.text.now))
    c.read_by.ensures
