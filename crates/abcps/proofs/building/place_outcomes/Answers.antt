use Rattle.std.proofs.Common.{rules}
use Rattle.abcps.proofs.Batches.{running_more}
use Rattle.abcps.proofs.building.place_outcomes.Goals as goal

pub returns-clause-runs : goal.returns-clause-runs
returns-clause-runs c before running texts are =
    let added = c.in_ok-placed.ensures.adds before running.pressed texts are in (
      added,
      running_more c.args.plan.now c.args.paper.now before c.args.outcomes c.args.run.now _ running added.pressed
          c.in_ok-placed.ensures.open (search rules) (search rules) (search rules),
    )
