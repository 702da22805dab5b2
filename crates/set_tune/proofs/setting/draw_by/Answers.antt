use Rattle.std.proofs.Common.{◌∙◌, Some, inl, refl, subst, sym}
use Rattle.set_tune.{specs.Setting.IsDrawRefusal, proofs.Refusals.none_some}
use Rattle.set_tune.proofs.setting.draw_by.Goals as goal

pub returns-in-None-clause-fault : goal.returns-in-None-clause-fault
returns-in-None-clause-fault c =
    subst (IsDrawRefusal (Some c.args.line.now) c.args.written.now) (sym c.share_fault.ensures)
    (inl (λ plan spells. none_some plan (sym c.in-None.is ∙ c.in_ok-plan.ensures.only plan spells), refl))
