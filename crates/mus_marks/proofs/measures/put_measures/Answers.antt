use Rattle.std.proofs.Common.{◌∙◌, ◌++◌, append-nil, get_or, drop, [], ◌+◌, ℤ, List, refl, sym, subst, ap, arith}
use Rattle.mus_drawn.specs.declared.drawn.DrawnEvent.{DrawnEvent}
use Rattle.mus_drawn.specs.Good.{AreGoodMeasures}
use Rattle.mus_bridges.specs.Ends.{event_ended, measure_ended, over}
use Rattle.mus_bridges.proofs.Ending.{over_done, over_step}
use Rattle.mus_slots.specs.Staff.{slots_laid}
use Rattle.mus_slots.specs.Voice.{events_slots, measures_slots}
use Rattle.mus_marks.proofs.Drawing.{from_here, measure_turn}
use Rattle.mus_marks.proofs.measures.put_measures.Goals as goal

pub loop-i-preserved : goal.loop-i-preserved
loop-i-preserved c =
    let frame = c.args.frame.now in
    let words = c.args.words in
    let so_far = c.loop-i.invariant in
    let ends = c.args.ends.now in
    let ms = c.args.measures.now in
    let i = c.loop-i.i in
    let d = c.index-measures-i.result in
    let old = c.loop-i.pen.marks in
    let laid = λ (ts : List ℤ) (es : List DrawnEvent).
    old
    ++ slots_laid frame.keys.now words.place
    (events_slots words.first c.loop-i.measure c.loop-i.in_head 0 0 (over event_ended ts es)) in
    let count = so_far.measure in
    record {
      marks =
          measure_turn frame.keys.now words.place words.first frame.lengths.now c.loop-i.measure c.loop-i.in_head
          (measure_ended (get_or ends i []) d) (over measure_ended (drop (i + 1) ends) (drop (i + 1) ms))
          (over measure_ended (drop i ends) (drop i ms)) old c.put_events.new.pen.marks c.put_bar_part.new.pen.marks _
          (over_step measure_ended ends ms i [] d (omega (arith, c.loop-i-test.true)) c.index-measures-i.is refl)
          (c.in_ok-put_events.ensures
          ∙ ap (laid c.ends_at-ends.result.now) c.as_slice-events.ensures
          ∙ ap (λ ts. laid ts d.events) c.ends_at-ends.ensures)
          c.in_ok-put_bar_part.ensures so_far.marks;
      good =
          (subst AreGoodMeasures (from_here ms i d (omega (arith, c.loop-i-test.true)) c.index-measures-i.is)
          so_far.good).1;
      measure = omega (arith, count);
    }

pub returns : goal.returns
returns c =
    let frame = c.args.frame.now in
    let words = c.args.words in
    let marks = c.loop-i.pen.marks in
    sym (append-nil marks)
    ∙ ap (λ ds.
    marks
    ++ slots_laid frame.keys.now words.place
    (measures_slots words.first frame.lengths.now c.loop-i.measure c.loop-i.in_head ds))
    (sym (over_done measure_ended c.args.ends.now c.args.measures.now c.loop-i.i (omega (arith, c.loop-i-test.false))))
    ∙ c.loop-i.invariant.marks
