use Rattle.std.proofs.Common.{◌∙◌, ◌+◌, cond, drop, get_or, Some, refl, sym, ap, arith}
use Rattle.std.proofs.lemmas.Bool.{ne_eqb}
use Rattle.std.specs.List.{find}
use Rattle.mus_bridges.specs.Arcs.{has_id}
use Rattle.mus_bridges.specs.Ends.{event_ended, over}
use Rattle.mus_bridges.proofs.Ending.{over_done, over_step}
use Rattle.mus_bridges.proofs.arcs.event_with.Goals as goal

pub loop-i-preserved : goal.loop-i-preserved
loop-i-preserved c =
    let id = c.args.id in
    let ends = c.args.events.ends.now in
    let es = c.args.events.events.now in
    let i = c.loop-i.i in
    let e = c.event-item.result in
    let more = over event_ended (drop (i + 1) ends) (drop (i + 1) es) in
    let differs = ne_eqb e.flat.event.id id
    (λ same. c.if-event-id.false (ap (λ event. event.id) c.event.ensures ∙ same)) in
    ap (λ b. cond b (Some (event_ended (get_or ends i e.plan.to) e)) (find (has_id id) more)) (sym differs)
    ∙ ap (find (has_id id))
    (sym (over_step event_ended ends es i e.plan.to e (omega (arith, c.loop-i-test.true)) c.event-item.is refl))
    ∙ c.loop-i.invariant

pub returns : goal.returns
returns c =
    let events = c.args.events in
    ap (find (has_id c.args.id))
    (sym (over_done event_ended events.ends.now events.events.now c.loop-i.i (omega (arith, c.loop-i-test.false))))
    ∙ c.loop-i.invariant
