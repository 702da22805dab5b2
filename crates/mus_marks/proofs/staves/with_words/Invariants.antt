use Rattle.std.proofs.Common.{◌≡◌, ◌≤◌, ◌+◌, ◌++◌, length, map}
use Rattle.std.specs.List.{All}
use Rattle.std.specs.Vec.Iter.{into_iter_items}
use Rattle.mus_drawn.specs.Good.{AreGoodMeasures}
use Rattle.mus_slots.specs.Voice.{slots_of_voices}
use Rattle.mus_slots.specs.Words.{with_words}
use Rattle.mus_marks.specs.Staff.{verses_on}
use Rattle.mus_marks.proofs.staves.with_words.Given as goal

abbrev pub invariant-loop-part : goal.invariant-loop-part
invariant-loop-part l = record {
  each : All (λ v. length v.measures ≡ length l.frame.lengths.now) l.rest;
  good : All (λ v. AreGoodMeasures v.measures) l.rest;
  verses : l.first + verses_on l.rest ≤ 128;
  all : l.all
      ++ with_words l.frame.keys.now l.places (into_iter_items l.part-iterator)
      (slots_of_voices l.first l.frame.lengths.now l.frame.a l.frame.b l.rest)
      ≡ with_words l.frame.keys.now (map (λ k. l.fn.place) l.frame.keys.now) l.fn.parts
      (slots_of_voices 0 l.frame.lengths.now l.frame.a l.frame.b l.voices);
}
