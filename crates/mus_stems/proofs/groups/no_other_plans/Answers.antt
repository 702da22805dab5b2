use Rattle.mus_stems.proofs.PlanLaws.{no_others}
use Rattle.mus_stems.proofs.groups.no_other_plans.Goals as goal

pub returns : goal.returns
returns c = no_others
