use Rattle.abc_steps.proofs.Bounds.{good_copy}
use Rattle.abc_steps.proofs.force.key_over.Goals as goal

pub returns-in-Some-clause-good : goal.returns-in-Some-clause-good
returns-in-Some-clause-good c =
    good_copy c.args.text.now.key c.in-Some.whole c.copy.result c.in-Some.is c.requires.text c.copy.ensures
