use Rattle.std.proofs.Common.{◌≡◌, ◌++◌, drop, map}
use Rattle.mus_drawn.specs.Good.{AreGoodDrawn}
use Rattle.mus_slots.specs.Words.{all_passed, words_from, words_slot}
use Rattle.mus_marks.proofs.words.put_measure_words.Given as goal

abbrev pub invariant-loop-e : goal.invariant-loop-e
invariant-loop-e l = record {
  marks : l.pen.marks
      ++ words_from l.keys l.places (map (words_slot l.first l.measure) (drop l.e-index l.events))
      ≡ l.fn.pen.marks ++ words_from l.keys l.fn.places (map (words_slot l.first l.measure) l.events);
  places : all_passed l.keys l.places (map (words_slot l.first l.measure) (drop l.e-index l.events))
      ≡ all_passed l.keys l.fn.places (map (words_slot l.first l.measure) l.events);
  good : AreGoodDrawn (drop l.e-index l.events);
}
