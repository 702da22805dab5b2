use Rattle.std.proofs.Common.{◌≡◌, ◌∙◌, ◌-◌, length, take, drop, ap, arith}
use Rattle.std.specs.Vec.Iter.{into_iter_items}
use Rattle.mus_drawn.specs.Good.{AreGoodMeasures}
use Rattle.mus_marks.specs.Staff.{verses_on}
use Rattle.mus_marks.proofs.Drawing.{word_turn}
use Rattle.mus_marks.proofs.Goods.{all_after}
use Rattle.mus_marks.proofs.Groups.{prefix_is}
use Rattle.mus_marks.proofs.Verses.{verses_cons}
use Rattle.mus_marks.proofs.staves.with_words.Goals as goal

pub loop-part-preserved : goal.loop-part-preserved
loop-part-preserved c =
    let frame = c.args.frame.now in
    let so_far = c.loop-part.invariant in
    let rest = c.loop-part.rest.now in
    let v = c.v-item.result in
    let following = take (length rest - 1) (drop 1 rest) in
    let prefix = prefix_is rest v c.in-len1-up.len_at_least c.v-item.is in
    let count = ap verses_on prefix ∙ verses_cons v following in
    let few = so_far.verses in
    record {
      each = all_after (λ w. length w.measures ≡ length frame.lengths.now) v following rest prefix so_far.each;
      good = all_after (λ w. AreGoodMeasures w.measures) v following rest prefix so_far.good;
      verses = omega (arith, few, count);
      all =
          word_turn frame.keys.now frame.lengths.now frame.a frame.b c.loop-part.first v following rest
          c.loop-part.places c.words_of.new.places c.in-Some.part c.in_ok-words.words (into_iter_items c.next.new.self)
          (into_iter_items c.loop-part.part-iterator) c.loop-part.all c.push.new.self c.push-in-loop-part.new.self
          _ prefix
          c.in-Some.ensures.steps.0 c.in_ok-words.ensures.drawn c.in_ok-words.ensures.places c.in_ok-push.ensures.ok
          c.in_ok-push-2.ensures.ok so_far.all;
    }
