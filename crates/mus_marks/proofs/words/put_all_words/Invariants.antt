use Rattle.std.proofs.Common.{◌≡◌, ◌+◌, ◌++◌, drop}
use Rattle.mus_drawn.specs.Good.{AreGoodMeasures}
use Rattle.mus_slots.specs.Words.{all_passed, words_from, words_slots}
use Rattle.mus_marks.proofs.words.put_all_words.Given as goal

abbrev pub invariant-loop-d : goal.invariant-loop-d
invariant-loop-d l = record {
  marks : l.pen.marks ++ words_from l.keys l.places (words_slots l.first l.measure (drop l.d-index l.measures))
      ≡ l.fn.pen.marks ++ words_from l.keys l.fn.places (words_slots l.first l.a l.measures);
  places : all_passed l.keys l.places (words_slots l.first l.measure (drop l.d-index l.measures))
      ≡ all_passed l.keys l.fn.places (words_slots l.first l.a l.measures);
  good : AreGoodMeasures (drop l.d-index l.measures);
  measure : l.measure ≡ l.a + l.d-index;
}
