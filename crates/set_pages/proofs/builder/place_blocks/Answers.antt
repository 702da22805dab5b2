use Rattle.std.proofs.Common.{◌≡◌, arith, drop, length, rules, subst, sym, take}
use Rattle.std.proofs.lemmas.Result.{IfOk-weaker}
use Rattle.set_pages.specs.Builder.{RisesBy}
use Rattle.set_pages.specs.Ready.{AreNumbered}
use Rattle.set_pages.proofs.Rising.{filled_numbered, planned_numbered}
use Rattle.set_pages.proofs.builder.place_blocks.Goals as goal

pub fill_after-requires-clause-few : goal.fill_after-requires-clause-few
fill_after-requires-clause-few c = omega (arith, c.requires.few, c.requires.open.pages)

pub returns-in-Filled-clause-numbered : goal.returns-in-Filled-clause-numbered
returns-in-Filled-clause-numbered c =
    IfOk-weaker c.fill_after.result _ _
    (λ f spots.
    subst AreNumbered (sym spots)
    (filled_numbered c.args.high c.args.press.now.last_block c.args.blocks.now
    (omega (arith, c.requires.few, c.requires.open.pages))))
    c.fill_after.ensures.spots

pub returns-in_ok-spots-in-At-clause-numbered : goal.returns-in_ok-spots-in-At-clause-numbered
returns-in_ok-spots-in-At-clause-numbered c =
    let rises = subst RisesBy c.in-At.is c.requires.rises in
    let value : c.in_ok-spots-in-At.spots ≡ take (length c.args.blocks.now) (drop c.args.press.now.put c.in-At.spots) =
    search rules in
    subst AreNumbered (sym value)
    (planned_numbered c.args.press.now.put (length c.args.blocks.now) c.in-At.spots rises c.requires.few)
