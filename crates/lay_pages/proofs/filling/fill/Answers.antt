use Rattle.std.proofs.Common.{subst, sym}
use Rattle.lay_pages.specs.Filling.{AreWithin, AreFilled}
use Rattle.lay_pages.proofs.Filled.{filled_so}
use Rattle.lay_pages.proofs.Fitting.{within_from, ready_first}
use Rattle.lay_pages.proofs.filling.fill.Goals as goal

pub spots_from-requires-clause-room : goal.spots_from-requires-clause-room
spots_from-requires-clause-room c = (ready_first c.args.high c.args.blocks.now (sym c.in-None.ensures)).fits

pub returns-in-Ok-clause-within : goal.returns-in-Ok-clause-within
returns-in-Ok-clause-within c =
    subst (λ spots. AreWithin c.args.high c.args.blocks.now spots) (sym c.in-Ok.ensures.spots)
    (within_from c.args.high (record { page = 0; down = 0 }) c.args.blocks.now c.requires.good
    (ready_first c.args.high c.args.blocks.now (sym c.in-None.ensures)))

pub returns-in-Ok-clause-filled : goal.returns-in-Ok-clause-filled
returns-in-Ok-clause-filled c =
    subst (λ spots. AreFilled c.args.high c.args.blocks.now spots) (sym c.in-Ok.ensures.spots)
    (filled_so c.args.high c.args.blocks.now c.requires.good)
