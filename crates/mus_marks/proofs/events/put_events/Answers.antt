use Rattle.std.proofs.Common.{◌≡◌, ◌≤◌, ◌-◌, ◌∙◌, ◌++◌, ◌∷◌, append-nil, length, map, take, drop, rules, refl, sym}
use Rattle.std.proofs.Common.{subst, ap, arith}
use Rattle.mus_onsets.specs.Order.{key_rank}
use Rattle.mus_laid.specs.Ranked.{drawn_at, inked}
use Rattle.mus_drawn.specs.Good.{AreGoodDrawn}
use Rattle.mus_bridges.specs.Ends.{event_ended, over}
use Rattle.mus_bridges.proofs.Ending.{over_done, over_step}
use Rattle.mus_slots.specs.Staff.{ink_with, slots_laid}
use Rattle.mus_slots.specs.Voice.{event_marks, events_slots, written_of}
use Rattle.mus_marks.proofs.Drawing.{event_turn}
use Rattle.mus_marks.proofs.Ending.{after_ended}
use Rattle.mus_marks.proofs.Groups.{prefix_is}
use Rattle.mus_marks.proofs.events.put_events.Goals as goal

pub loop-rest-preserved : goal.loop-rest-preserved
loop-rest-preserved c =
    let so_far = c.loop-rest.invariant in
    let rest = c.loop-rest.rest.now in
    let e = c.e-item.result in
    let following = take (length rest - 1) (drop 1 rest) in
    let prefix = prefix_is rest e c.in-len1-up.len_at_least c.e-item.is in
    let ends = c.loop-rest.ends.now in
    let ended = event_ended c.end_at-to.result e in
    let split = ap (over event_ended ends) prefix
    ∙ over_step event_ended ends (e ∷ following) 0 e.plan.to e (omega arith) refl refl
    ∙ ap (λ t. event_ended t e ∷ over event_ended (drop 1 ends) following) (sym c.end_at-to.ensures)
    ∙ ap (λ ts. ended ∷ over event_ended ts following) (sym c.after_first-ends.ensures) in
    let ink = ink_with c.args.words.place (event_marks c.levels_in-before.result c.levels_after-after.result ended)
    (written_of c.args.words.first e.flat) in
    let drawn : c.put_event.new.pen ≡ inked c.go_to.new.self ink = search rules in
    record {
      marks =
          event_turn c.args.keys.now c.args.words.place c.args.words.first c.args.measure c.loop-rest.drawn
          c.loop-rest.group c.loop-rest.flags c.levels_in-before.result c.levels_after-after.result ended
          (over event_ended c.after_first-ends.result.now following) (over event_ended ends rest)
          c.loop-rest.pen.marks c.put_change_part.new.pen.marks c.put_graces.new.pen.marks
          c.put_event.new.pen.marks _ split c.levels_in-before.ensures
          (c.levels_after-after.ensures
          ∙ after_ended e.plan c.end_at-to.result c.after_first-ends.result.now following)
          c.in_ok-put_change_part.ensures
          c.in_ok-put_graces.ensures
          (ap (λ pen. pen.marks) drawn
          ∙ ap (λ marks. marks ++ map (drawn_at c.go_to.new.self.rank) ink) c.go_to.ensures.marks
          ∙ ap (λ r. c.put_graces.new.pen.marks ++ map (drawn_at r) ink)
          (c.go_to.ensures.rank ∙ ap (key_rank c.args.keys.now) c.note_key.ensures))
          so_far.marks;
      good = (subst AreGoodDrawn prefix so_far.good).1;
    }

pub returns : goal.returns
returns c =
    let words = c.args.words in
    let rest = c.loop-rest.rest.now in
    let ends = c.loop-rest.ends.now in
    let marks = c.loop-rest.pen.marks in
    let none : length rest ≤ 0 = search rules in
    sym (append-nil marks)
    ∙ ap (λ es.
    marks
    ++ slots_laid c.args.keys.now words.place
    (events_slots words.first c.args.measure c.loop-rest.drawn c.loop-rest.group c.loop-rest.flags es))
    (sym (over_done event_ended ends rest 0 none))
    ∙ c.loop-rest.invariant.marks
