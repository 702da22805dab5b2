use Rattle.std.proofs.Common.{◌∙◌, List, ◌++◌, sym, ap}
use Rattle.std.specs.List.{slice_range}
use Rattle.mus_drawn.specs.declared.drawn.DrawnMeasure.{DrawnMeasure}
use Rattle.mus_slots.specs.Words.{all_passed, words_from, words_slots}
use Rattle.mus_slots.proofs.Words.{voice_words}
use Rattle.mus_marks.proofs.words.words_of.Goals as goal

pub returns-clause-drawn : goal.returns-clause-drawn
returns-clause-drawn c =
    let frame = c.args.frame.now in
    let keys = frame.keys.now in
    let places = c.args.places.now in
    let words = λ (ms : List DrawnMeasure).
    words_from keys places (words_slots c.args.first frame.a (slice_range ms frame.a frame.b)) in
    c.in_ok-put_all_words.ensures.drawn
    ∙ ap (λ t. t ++ words c.as_slice.result.now) c.new-pen.ensures
    ∙ ap words c.as_slice.ensures
    ∙ sym ((voice_words keys c.args.first frame.lengths.now frame.a frame.b c.args.v.now).words places)

pub returns-clause-places : goal.returns-clause-places
returns-clause-places c =
    let frame = c.args.frame.now in
    let keys = frame.keys.now in
    let places = c.args.places.now in
    c.in_ok-put_all_words.ensures.places
    ∙ ap (λ ms. all_passed keys places (words_slots c.args.first frame.a (slice_range ms frame.a frame.b)))
    c.as_slice.ensures
    ∙ sym ((voice_words keys c.args.first frame.lengths.now frame.a frame.b c.args.v.now).after places)
