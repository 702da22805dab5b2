use Rattle.std.proofs.Common.{◌≡◌, ◌<◌, ◌≤◌, length, Some, arith, sym, ◌∙◌, inl, inr}
use Rattle.std.proofs.lemmas.Bool.{cases_lt}
use Rattle.std.proofs.lemmas.Int.{ints}
use Rattle.std.proofs.lemmas.Option.{none-some}
use Rattle.lay_springs.{specs.ReachView.{reach_in, reach_in_near}, proofs.Fronts.{none_past, past_more}}
use Rattle.lay_springs.proofs.least.past_each.Goals as goal

pub loop-lane-preserved : goal.loop-lane-preserved
loop-lane-preserved c =
    let here : reach_in c.args.row.now c.loop-lane.lane ≡ Some c.in-Some.s = sym c.reach_in.ensures ∙ c.in-Some.is in
    let i = c.loop-lane.invariant in
    let e = c.past_end-next.ensures in
    let inside : c.loop-lane.lane < length c.args.gaps.list.now =
    (let most = c.min-lane-end.ensures in let test = c.loop-lane-test.true in omega arith) in
    let high = c.requires.small c.loop-lane.lane inside in
    record {
      kept = omega (arith, ints);
      clear =
          past_more _ _ _ _ _ _ _ here (omega (arith, ints))
          (λ some. let p = e.past (omega (arith, ints)) in omega (arith, ints)) i.clear;
      least = λ v b h.
          let old = i.least v b (λ k u lt eu p. h k u (omega arith) eu p) in
          let l = e.least v (omega (arith, ints))
          (λ some. let now = h c.loop-lane.lane _ (omega arith) here (omega (arith, ints)) in omega (arith, ints)) in
          omega (arith, ints);
    }

pub overflow_add-gaps : goal.overflow_add-gaps
overflow_add-gaps c =
    let here : reach_in c.args.row.now c.loop-lane.lane ≡ Some c.in-Some.s = sym c.reach_in.ensures ∙ c.in-Some.is in
    let near = rw here at (reach_in_near c.args.row.now c.loop-lane.lane) in
    let left = near.0 in
    let gap = c.args.gaps.narrow c.loop-lane.lane
    (let most = c.min-lane-end.ensures in let test = c.loop-lane-test.true in omega arith) in
    omega arith

pub returns-clause-clear : goal.returns-clause-clear
returns-clause-clear c = λ lane s l e some. elim (cases_lt lane c.loop-lane.lane) [
  | inl before ↦ c.loop-lane.invariant.clear lane s before e some
  | inr following ↦
      let past : length c.args.row.now ≤ lane =
      let most = c.min-lane-end.ensures in let test = c.loop-lane-test.false in omega arith in
      absurd (none-some s (sym (none_past c.args.row.now lane past) ∙ e))
]

pub returns-clause-least : goal.returns-clause-least
returns-clause-least c = λ v from h. c.loop-lane.invariant.least v (omega (arith, ints)) (λ lane s l e some.
    h lane s (let most = c.min-lane-end.ensures in let end = c.loop-lane.auto.lane-end in omega arith) e some)
