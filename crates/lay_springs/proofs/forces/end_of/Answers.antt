use Rattle.std.proofs.{Common.◌≡◌, Common.Some, Common.arith, Common.sym, Common.◌∙◌, lemmas.Int.ints}
use Rattle.lay_springs.proofs.Ends.{end_more}
use Rattle.lay_springs.proofs.forces.end_of.Goals as goal

pub loop-lane-preserved : goal.loop-lane-preserved
loop-lane-preserved g c =
    let here : g.C.Spaced.reach_of c.args.col.now c.loop-lane.lane ≡ Some c.in-Some.r =
    sym (c.stands-stands.ensures c.loop-lane.lane (let few = c.requires.few in omega arith))
    ∙ sym c.at.ensures
    ∙ c.in-Some.is in
    let e = c.larger-end.ensures in
    end_more _ _ _ _ _ _ here (omega (arith, ints)) (omega (arith, ints))
    (λ v p q. let l = e.least v (omega (arith, ints)) (omega (arith, ints)) in omega (arith, ints))
    c.loop-lane.invariant
