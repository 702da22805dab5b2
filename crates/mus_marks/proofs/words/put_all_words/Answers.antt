use Rattle.std.proofs.Common.{subst, arith}
use Rattle.mus_drawn.specs.Good.{AreGoodMeasures}
use Rattle.mus_marks.proofs.Drawing.{from_here, words_turn}
use Rattle.mus_marks.proofs.words.put_all_words.Goals as goal

pub loop-d-preserved : goal.loop-d-preserved
loop-d-preserved c =
    let so_far = c.loop-d.invariant in
    let ms = c.args.measures.now in
    let i = c.loop-d.d-index in
    let d = c.d-item.result in
    let turn = words_turn c.args.keys.now c.loop-d.places c.args.first c.loop-d.measure c.put_measure_words.new.places _
    i ms d c.as_slice.result.now c.loop-d.pen.marks c.put_measure_words.new.pen.marks _
    (omega (arith, c.loop-d-test.true)) c.d-item.is c.as_slice.ensures c.in_ok-put_measure_words.ensures.drawn
    c.in_ok-put_measure_words.ensures.places so_far.marks so_far.places in
    let count = so_far.measure in
    record {
      marks = turn.0;
      places = turn.1;
      good = (subst AreGoodMeasures (from_here ms i d (omega (arith, c.loop-d-test.true)) c.d-item.is) so_far.good).1;
      measure = omega (arith, count);
    }
