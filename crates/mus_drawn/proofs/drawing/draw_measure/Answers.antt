use Rattle.std.proofs.Common.{subst, sym, ap, length, ◌∙◌, arith}
use Rattle.std.specs.Prelude.{map, sum}
use Rattle.mus_score.specs.Good.{weight}
use Rattle.mus_score.specs.Times.{flats_of}
use Rattle.mus_units.specs.Good.{IsGoodKey}
use Rattle.mus_drawn.specs.Drawn.{opening_of, staff_state_after}
use Rattle.mus_drawn.proofs.GoodLaws.{key_left_after, measure_good}
use Rattle.mus_drawn.proofs.drawing.draw_measure.Goals as goal

pub returns-clause-good : goal.returns-clause-good
returns-clause-good c =
    let heads = c.in_ok-flats.ensures.heads in
    let few = c.requires.body.few in
    let weights = ap (λ body. sum (map weight body)) c.as_slice.ensures in
    measure_good c.args.style c.args.now.now (flats_of c.args.m.now.body) c.in_ok-flats.flats c.in_ok-plans.plans
    c.in_ok-opening.opening c.in_ok-draw_events.field-0 c.args.m.now.bar
    (c.in_ok-flats.ensures.flats ∙ ap flats_of c.as_slice.ensures)
    (c.in_ok-opening.ensures ∙ ap (opening_of c.args.now.now) c.as_slice-2.ensures) c.in_ok-draw_events.ensures.events
    c.requires.key c.requires.reach c.requires.events c.in_ok-plans.ensures.ends (omega (arith, heads, few, weights))
    c.in_ok-flats.ensures.count

pub returns-clause-now : goal.returns-clause-now
returns-clause-now c =
    let each = c.in_ok-plans.ensures.each in let same = ap (λ fs. length fs) c.as_slice-3.ensures in
    c.in_ok-draw_events.ensures.now (omega (arith, each, same))
    ∙ ap (staff_state_after c.args.now.now) (c.in_ok-flats.ensures.flats ∙ ap flats_of c.as_slice.ensures)

pub returns-clause-key : goal.returns-clause-key
returns-clause-key c =
    subst (λ n. IsGoodKey n.key) (sym (returns-clause-now c))
    (key_left_after c.args.now.now (flats_of c.args.m.now.body) c.requires.key c.requires.events)
