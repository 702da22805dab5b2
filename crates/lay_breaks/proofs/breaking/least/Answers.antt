use Rattle.std.proofs.Common.{◌≡◌, None, Some, IsSome, arith, sym, ◌∙◌, subst, slice_index_or, reverse}
use Rattle.std.proofs.lemmas.List.{get_or_read_under}
use Rattle.lay_breaks.{specs.Table.LeadsBack, proofs.breaking.least.Goals.After-walk_back}
use Rattle.lay_breaks.proofs.Whole as whole
use Rattle.lay_breaks.proofs.breaking.least.Goals as goal

follows : (g : _) (c : After-walk_back g) (bs : _)
    → LeadsBack c.deref.result.now c.args.n (reverse bs)
    → LeadsBack c.in_ok-potentials.field-0.froms.items c.args.n (reverse bs)
follows g c bs h = subst (λ fs. LeadsBack fs c.args.n (reverse bs)) c.deref.ensures.value h

some : (g : _) (c : After-walk_back g)
    → slice_index_or c.in_ok-potentials.field-0.potentials.items c.args.n None ≡ Some c.in-Some.total
some g c =
    sym (get_or_read_under c.in_ok-potentials.field-0.potentials.items c.args.n _ _ None c.index.ensures
    (let l = c.in_ok-potentials.ensures.one_each in omega arith) c.in_ok-potentials.field-0.potentials.ok.0)
    ∙ c.in-Some.is

pub returns-in_ok-breaks-in-Some-clause-chosen : goal.returns-in_ok-breaks-in-Some-clause-chosen
returns-in_ok-breaks-in-Some-clause-chosen g c =
    let s = (goal.at.returns-in_ok-breaks-in-Some-clause-chosen g c).After-walk_back in
    whole.chosen _ _ (g.met.K.Costs.begins_free c.args.costs.now) c.args.n _ _ c.in_ok-potentials.ensures.known
    c.in-Some.total (some g s)
    c.in_ok-breaks-in-Some.breaks.items (follows g s c.in_ok-breaks-in-Some.breaks.items c.in_ok-breaks-in-Some.ensures)

pub returns-in_ok-breaks-in-Some-clause-total : goal.returns-in_ok-breaks-in-Some-clause-total
returns-in_ok-breaks-in-Some-clause-total g c =
    let s = (goal.at.returns-in_ok-breaks-in-Some-clause-total g c).After-walk_back in
    whole.total _ _ (g.met.K.Costs.begins_free c.args.costs.now) c.args.n _ _ c.in_ok-potentials.ensures.known
    c.in-Some.total (some g s)
    c.in_ok-breaks-in-Some.breaks.items (follows g s c.in_ok-breaks-in-Some.breaks.items c.in_ok-breaks-in-Some.ensures)

pub returns-in_ok-breaks-in-Some-clause-potentials : goal.returns-in_ok-breaks-in-Some-clause-potentials
returns-in_ok-breaks-in-Some-clause-potentials g c =
    whole.potential _ _ (g.met.K.Costs.begins_free c.args.costs.now) c.args.n _ _ c.in_ok-potentials.ensures.known

pub returns-in-None-clause-no_way : goal.returns-in-None-clause-no_way
returns-in-None-clause-no_way g c =
    let free = g.met.K.Costs.begins_free c.args.costs.now in let l = c.in_ok-potentials.ensures.one_each in
    let none : slice_index_or c.in_ok-potentials.field-0.potentials.items c.args.n None ≡ None =
    sym (get_or_read_under c.in_ok-potentials.field-0.potentials.items c.args.n _ _ None c.index.ensures (omega arith)
    c.in_ok-potentials.field-0.potentials.ok.0)
    ∙ c.in-None.is in
    let e = c.last_reached.ensures in
    let v = c.deref-in-None.ensures.value in (
      whole.none_at _ _ free c.args.n _ _ c.in_ok-potentials.ensures.known none,
      whole.reached _ _ free c.args.n _ _ c.in_ok-potentials.ensures.known c.last_reached.result e.within
          (subst (λ ps. IsSome (slice_index_or ps c.last_reached.result None)) v e.reached)
          (λ i le some. e.greatest i le (subst (λ ps. IsSome (slice_index_or ps i None)) (sym v) some)),
    )
