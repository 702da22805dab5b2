use Rattle.std.proofs.Common.{◌≡◌, ◌∙◌, arith, rules, subst, sym}
use Rattle.std.specs.List.{AllZip}
use Rattle.std.proofs.lemmas.List.Elements.{All-tail}
use Rattle.std.proofs.lemmas.Grind.{common_steps}
use Rattle.std.specs.Vec.Iter.{into_iter_items}
use Rattle.eng_jobs.proofs.ZipLaws.{awaits_next, awaits_none}
use Rattle.eng_jobs.proofs.work.work_in_turn.Goals as goal

pub loop-item-preserved : goal.loop-item-preserved
loop-item-preserved g c = record {
  awaits =
      rw c.in_ok-push.ensures.ok
      (awaits_next _ _ _ c.loop-item.outcomes c.in-Some.item _ c.in_ok-work.ensures
      (rw c.in-Some.ensures.steps.0 at c.loop-item.invariant.awaits));
  taken =
      All-tail (g.W.Work.takes c.args.work.now) c.in-Some.item _
      (rw c.in-Some.ensures.steps.0 at c.loop-item.invariant.taken);
  count = grind (arith, common_steps);
}

pub returns : goal.returns
returns g c =
    let gives = g.W.Work.gives c.args.work.now in
    let worked =
    awaits_none gives _ _ c.loop-item.outcomes (sym c.loop-item.invariant.count ∙ c.in-None.ensures.steps.0)
    c.loop-item.invariant.awaits in
    let same : into_iter_items c.into_iter-item-iterator.result ≡ c.args.items = search rules in
    subst (λ items. AllZip gives items c.loop-item.outcomes) same worked
