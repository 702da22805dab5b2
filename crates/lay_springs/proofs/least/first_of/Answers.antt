use Rattle.std.proofs.Common.{◌≡◌, Some, arith, subst, sym, ◌∙◌, w64}
use Rattle.std.proofs.lemmas.Int.{ints, to_z-of_z}
use Rattle.lay_springs.{specs.ReachView.TellsReach, proofs.{Clear.inside_more, Fronts.lone_known}}
use Rattle.lay_springs.proofs.least.first_of.Goals as goal

pub loop-lane-preserved : goal.loop-lane-preserved
loop-lane-preserved g c =
    let here : g.C.Spaced.reach_of c.args.col.now c.loop-lane.lane ≡ Some c.in-Some.s =
    sym (c.stands-stands.ensures c.loop-lane.lane (omega arith)) ∙ sym c.at.ensures ∙ c.in-Some.is in
    let i = c.loop-lane.invariant in let e = c.larger-first.ensures in
    record {
      begins = omega (arith, ints);
      inside = inside_more _ _ _ _ _ here (omega (arith, ints)) (omega (arith, ints)) i.inside;
      least = λ v b h.
          let old = i.least v b (λ k u lt eu. h k u (omega arith) eu) in
          let now = h c.loop-lane.lane _ (omega arith) here in
          let l = e.least v (omega (arith, ints)) (omega (arith, ints)) in
          omega (arith, ints);
    }

pub returns-then-stand-lanes-clause-least : goal.returns-then-stand-lanes-clause-least
returns-then-stand-lanes-clause-least g c = λ v begins inside.
    let lone = lone_known c.in-OneLane.stand (g.C.Spaced.reach_of c.args.col.now)
    (subst (λ s. TellsReach s (g.C.Spaced.reach_of c.args.col.now)) c.in-OneLane.is c.stands-stands.ensures)
    (omega arith) in
    let left = inside c.in-OneLane.stand.lane c.in-OneLane.stand.reach c.if-stand-lanes.true lone.here in
    rw (to_z-of_z w64 c.from.result (record { sfits = c.from.type_inv }), c.from.ensures) left
