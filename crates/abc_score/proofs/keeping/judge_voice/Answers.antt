use Rattle.std.proofs.Common.{◌≡◌, ◌∙◌, ◌+◌, ◌++◌, ◌<◌, ℕ, length, get_or, sym, ap, reverse, take, drop, true, rules}
use Rattle.std.proofs.Common.{arith}
use Rattle.std.proofs.lemmas.List.{drop_all}
use Rattle.{abc_faults.proofs.Walks.{at_front, nearest, part_more}, abc_signs.specs.Signs.{signs, tree_items_of}}
use Rattle.abc_steps.specs.{declared.{step.PlacedStep.PlacedStep, force.InForce.InForce}, Looks.Steps, Places.state_at}
use Rattle.abc_score.{specs.Judged.is_idle, proofs.Idle.{idle_at, idle_so_far}}
use Rattle.abc_score.proofs.Stops.{judged_to, judged_whole, none_so_far, step_so_far}
use Rattle.abc_score.proofs.keeping.judge_voice.Goals as goal

sign_parts : (first : InForce) (steps : Steps) (i : ℕ) (at : PlacedStep) → i < length steps → at ≡ get_or steps i at
    → signs first (reverse (take i steps)) (drop i steps)
    ≡ tree_items_of (state_at first (reverse (take i steps))) (reverse (take i steps)) at (drop (i + 1) steps) at.step
    ++ signs first (reverse (take (i + 1) steps)) (drop (i + 1) steps)
sign_parts first steps i at less is =
    let before = reverse (take i steps) in let following = drop (i + 1) steps in
    ap (signs first before) (at_front steps i at less is)
    ∙ ap (λ z. tree_items_of (state_at first before) before at following at.step ++ signs first z following)
    (sym (nearest steps i at less is))

pub loop-i-init : goal.loop-i-init
loop-i-init c = search (rules, none_so_far)

pub loop-i-preserved : goal.loop-i-preserved
loop-i-preserved c =
    let first = c.args.v.now.first in
    let steps = c.as_slice-steps.result.now in
    let i = c.loop-i.i in
    let at = c.index-steps-i.result in
    let before = reverse (take i steps) in
    let following = drop (i + 1) steps in
    let near = nearest steps i at c.loop-i-test.true c.index-steps-i.is in
    let judged = step_so_far first steps i c.loop-i-test.true c.index-steps-i.is c.loop-i.invariant.place
    c.split_at.ensures.front
    c.split_at-in-loop-i.ensures.back c.loop-i.invariant.judged c.in_ok-judge_step.ensures.fault
    c.earlier-found.ensures.value
    c.in_ok-judge_step.ensures.weights in
    record {
      judged = rw near judged.0;
      kept = λ whole.
          let kept = c.in_ok-keep.ensures whole in
          let own_signs = tree_items_of (state_at first before) before at following at.step in
          let is_put : c.keep.new.kept.signs ≡ c.loop-i.kept.signs ++ own_signs =
          cc (kept.1, c.loop-i.invariant.place, c.split_at.ensures.front, c.split_at-in-loop-i.ensures.back) in
          part_more own_signs _ (signs first before (drop i steps)) c.loop-i.kept.signs _ _
          (sign_parts first steps i at c.loop-i-test.true c.index-steps-i.is) is_put (c.loop-i.invariant.kept kept.0);
      place = c.in_ok-step_over.ensures.value first before c.loop-i.invariant.place ∙ ap (state_at first) (sym near);
      groups = omega (arith, c.in_ok-step_over.ensures.groups);
      further = omega (arith, c.in_ok-step_over.ensures.further);
      force = c.in_ok-step_over.ensures.force;
    }

pub loop-i-preserved-then-is_idle : goal.loop-i-preserved-then-is_idle
loop-i-preserved-then-is_idle c =
    let first = c.args.v.now.first in
    let steps = c.as_slice-steps.result.now in
    let i = c.loop-i.i in
    let at = c.index-steps-i.result in
    let following = drop (i + 1) steps in let near = nearest steps i at c.loop-i-test.true c.index-steps-i.is in
    let test : is_idle at.step ≡ true = sym c.is_idle.ensures ∙ c.if-is_idle.true in
    let idle = idle_at first (reverse (take i steps)) at following test in
    let signs_are = sign_parts first steps i at c.loop-i-test.true c.index-steps-i.is
    ∙ ap (λ z. z ++ signs first (reverse (take (i + 1) steps)) following) idle.signs in
    record {
      judged = idle_so_far first steps i at c.loop-i-test.true c.index-steps-i.is test c.loop-i.invariant.judged;
      kept = λ whole. ap (λ z. c.loop-i.kept.signs ++ z) (sym signs_are) ∙ c.loop-i.invariant.kept whole;
      place = c.loop-i.invariant.place ∙ sym (ap (state_at first) near ∙ idle.place);
      groups = omega (arith, c.loop-i.invariant.groups);
      further = omega (arith, c.loop-i.invariant.further);
      force = c.loop-i.invariant.force;
    }

pub returns-then-is_end-clause-judged : goal.returns-then-is_end-clause-judged
returns-then-is_end-clause-judged c =
    let first = c.args.v.now.first in let steps = c.as_slice-steps.result.now in
    let judged = step_so_far first steps c.loop-i.i c.loop-i-test.true c.index-steps-i.is c.loop-i.invariant.place
    c.split_at.ensures.front
    c.split_at-in-loop-i.ensures.back c.loop-i.invariant.judged c.in_ok-judge_step.ensures.fault
    c.earlier-found.ensures.value
    c.in_ok-judge_step.ensures.weights in
    let own : c.split_at-then-len-limit.result.1.now ≡ drop (length c.args.weights.now) c.judge_step.new.weights =
    cc (c.split_at-then-len-limit.ensures.back, c.as_slice.ensures, c.len-start.ensures) in
    let end = rw (own, c.split_at-in-loop-i.ensures.back) at (c.is_end.ensures c.if-is_end.true) in
    rw c.as_slice-steps.ensures at (judged_to first steps _ judged.0 judged.1 end)

pub returns-clause-judged : goal.returns-clause-judged
returns-clause-judged c =
    let steps = c.as_slice-steps.result.now in
    rw c.as_slice-steps.ensures at
    (judged_whole (rw (drop_all c.loop-i.i steps c.loop-i-test.false) at c.loop-i.invariant.judged))
