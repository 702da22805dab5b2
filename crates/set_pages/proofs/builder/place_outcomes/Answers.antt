use Rattle.std.proofs.{Common.{arith, refl, subst, sym}, lemmas.Grind.common_steps}
use Rattle.std.proofs.lemmas.List.Elements.{All-drop, All-take}
use Rattle.set_pages.specs.Ready.{AreNumbered, IsNumbered}
use Rattle.set_pages.proofs.Stepping.{parting_count, parting_more}
use Rattle.set_pages.proofs.builder.place_outcomes.Goals as goal

pub split_at-requires : goal.split_at-requires
split_at-requires c =
    rw c.block_count.ensures
    (parting_count _ _ _ _ c.in-Some.outcome _ _ _ (rw c.in-Some.ensures.steps.0 at c.loop-outcome.invariant.way))

pub begun_after-begun-requires : goal.begun_after-begun-requires
begun_after-begun-requires c =
    subst AreNumbered (sym c.split_at.ensures.front)
    (All-take IsNumbered c.block_count.result c.loop-outcome.rest.now c.loop-outcome.invariant.numbered)

pub loop-outcome-preserved : goal.loop-outcome-preserved
loop-outcome-preserved c = record {
  way =
      parting_more _ _ _ c.loop-outcome.begun c.in-Some.outcome _ _ c.loop-outcome.stood
      (rw c.in-Some.ensures.steps.0 at c.loop-outcome.invariant.way) c.block_count.result _ _ c.block_count.ensures
      c.split_at.ensures.front c.split_at.ensures.back _ _ _ refl refl c.in_ok-spots.ensures
      c.begun_after-begun.ensures.value c.in_ok-push.ensures.ok;
  numbered =
      subst AreNumbered (sym c.split_at.ensures.back)
      (All-drop IsNumbered c.block_count.result c.loop-outcome.rest.now c.loop-outcome.invariant.numbered);
  count = grind (arith, common_steps);
}
