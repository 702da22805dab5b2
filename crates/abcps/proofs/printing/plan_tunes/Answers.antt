use Rattle.std.proofs.{Common.{◌∙◌, [], ap, arith, length, rules}, lemmas.List.append-nil}
use Rattle.{set_tune.specs.Terms.{terms_of}, abcps.proofs.Gathered.{blocks_on, planned_by}}
use Rattle.law_few_blocks.proofs.Blocks.{first_few}
use Rattle.abcps.proofs.printing.plan_tunes.Goals as goal

pub even_plan-requires-clause-blocks : goal.even_plan-requires-clause-blocks
even_plan-requires-clause-blocks g c =
    blocks_on (terms_of c.args.setting.now.defaults.now c.args.setting.now.paper.now c.args.setting.now.how)
    c.args.tunes.now c.in_ok-blocks.blocks c.as_slice.result.now c.as_slice.ensures c.requires.counted
    c.in_ok-blocks.ensures

pub even_plan-requires-clause-few : goal.even_plan-requires-clause-few
even_plan-requires-clause-few g c =
    let blocks = c.in_ok-blocks.ensures in
    omega (
      arith,
      first_few (terms_of c.args.setting.now.defaults.now c.args.setting.now.paper.now c.args.setting.now.how)
          c.args.tunes.now [] c.args.tunes.now blocks.outcomes (append-nil c.args.tunes.now) c.requires.few blocks.set,
      ap length (c.as_slice.ensures ∙ blocks.value),
    )

pub returns : goal.returns
returns g c =
    planned_by c.args.even
    (terms_of c.args.setting.now.defaults.now c.args.setting.now.paper.now c.args.setting.now.how) c.args.tunes.now
    c.in_ok-blocks.blocks c.as_slice.result.now c.in_ok-plan.plan (search rules) c.as_slice.ensures
    c.in_ok-blocks.ensures c.in_ok-plan.ensures
