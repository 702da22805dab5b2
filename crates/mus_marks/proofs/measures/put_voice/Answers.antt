use Rattle.std.proofs.Common.{◌≡◌, ◌∙◌, ◌++◌, List, Bool, true, false, None, append_assoc, rules, subst, sym, ap, arith}
use Rattle.std.specs.List.{slice_range}
use Rattle.std.specs.Prelude.{OnOk}
use Rattle.mus_drawn.specs.declared.drawn.DrawnMeasure.{DrawnMeasure}
use Rattle.mus_bridges.specs.Ends.{measure_ended, over, voice_ended}
use Rattle.mus_bridges.proofs.Ending.{ended_range}
use Rattle.mus_slots.specs.Staff.{slots_laid}
use Rattle.mus_slots.specs.Voice.{columns_slots, first_slots, head_slots, measures_slots, range_slots}
use Rattle.mus_slots.proofs.Laid.{columns_laid}
use Rattle.mus_marks.proofs.Ending.{head_ended}
use Rattle.mus_marks.proofs.measures.put_voice.Goals as goal

pub returns : goal.returns
returns c =
    let frame = c.args.frame.now in
    let keys = frame.keys.now in
    let lengths = frame.lengths.now in
    let a = frame.a in
    let v = c.args.v.now in
    let place = c.args.words.place in
    let first = c.args.words.first in
    let old = c.args.pen.now.marks in
    let ds = slice_range c.as_slice.result.now a frame.b in
    let head = slots_laid keys None (head_slots a ds) in
    let start = slots_laid keys None (first_slots a v.seat v.first) in
    let ends = c.args.ends.now in
    let ended = over measure_ended ends ds in
    let own = slots_laid keys place (measures_slots first lengths a true ended) in
    let laid = λ (ms : List DrawnMeasure).
    slots_laid keys place (columns_slots first lengths a v.seat v.first ms) in
    let all = λ (begins : Bool).
    slots_laid keys place (range_slots begins lengths a frame.b first (voice_ended a ends v)) in
    let count = c.requires.lengths in
    subst (λ t. OnOk c.put_measures-2.result (c.put_measures-2.new.pen.marks ≡ t))
    (ap (λ t. t ++ own) (c.in_ok-put_first_part.ensures
    ∙ ap (λ t. t ++ start) (c.in_ok-put_head_part.ensures ∙ ap (λ t. t ++ head) (search rules))
    ∙ append_assoc old head start)
    ∙ append_assoc old (head ++ start) own
    ∙ ap (λ t. old ++ t)
    (ap (λ t. slots_laid keys None t ++ start ++ own) (head_ended a ends ds)
    ∙ columns_laid keys place first lengths a v.seat v.first ended
    ∙ ap (λ ms. laid (over measure_ended ends (slice_range ms a frame.b))) c.as_slice.ensures
    ∙ ap laid (sym (ended_range a frame.b ends v (omega (arith, count, frame.within, frame.order))))
    ∙ ap all (sym c.if-not-begins.false)))
    c.put_measures-2.ensures

pub returns-then-not-begins : goal.returns-then-not-begins
returns-then-not-begins c =
    let frame = c.args.frame.now in
    let keys = frame.keys.now in
    let lengths = frame.lengths.now in
    let a = frame.a in
    let v = c.args.v.now in
    let place = c.args.words.place in
    let first = c.args.words.first in
    let ends = c.args.ends.now in
    let laid = λ (ms : List DrawnMeasure). slots_laid keys place (measures_slots first lengths a false ms) in
    let all = λ (begins : Bool).
    slots_laid keys place (range_slots begins lengths a frame.b first (voice_ended a ends v)) in
    let count = c.requires.lengths in
    subst (λ more. OnOk c.put_measures.result (c.put_measures.new.pen.marks ≡ c.args.pen.now.marks ++ more))
    (ap (λ ms. laid (over measure_ended ends (slice_range ms a frame.b))) c.as_slice.ensures
    ∙ ap laid (sym (ended_range a frame.b ends v (omega (arith, count, frame.within, frame.order))))
    ∙ ap all (sym c.if-not-begins.true))
    c.put_measures.ensures
