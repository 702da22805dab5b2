use Rattle.std.proofs.Common.{subst, sym}
use Rattle.mus_stems.specs.Beams.{is_joined}
use Rattle.mus_stems.specs.Plans.{run_plans}
use Rattle.mus_stems.specs.Stills.{IsGoodStill, AllGood}
use Rattle.mus_stems.proofs.RunLaws.{run_step, all_take, all_drop}
use Rattle.mus_stems.proofs.plans.put_all_runs.Goals as goal

pub loop-d-preserved : goal.loop-d-preserved
loop-d-preserved c = record {
  good = subst (λ t. AllGood t) (sym c.split_at.ensures.back) (all_drop IsGoodStill _ _ c.loop-d.invariant.good);
  plans =
      run_step is_joined (run_plans c.args.wish) c.in-Some.d.now c.in-Some.more.now _ _ _ _ c.loop-d.out
      c.put_run.new.out _ c.in-Some.ensures.cases.0 c.more_in_run-n.ensures.value c.split_at.ensures.front
      c.split_at.ensures.back c.in_ok-put_run.ensures c.loop-d.invariant.plans;
}

pub put_run-requires : goal.put_run-requires
put_run-requires c =
    subst (λ t. AllGood t) (sym c.split_at.ensures.front) (all_take IsGoodStill _ _ c.loop-d.invariant.good)
