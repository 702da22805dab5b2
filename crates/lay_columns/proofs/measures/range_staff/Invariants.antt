use Rattle.std.proofs.Common.{◌≡◌, ◌≤◌, ◌+◌, ◌++◌, drop}
use Rattle.{mus_marks.specs.Staff.{verses_on}, lay_columns.specs.Measures.{range_part, parts_from}}
use Rattle.lay_columns.proofs.measures.range_staff.Given as goal

abbrev pub invariant-loop-v : goal.invariant-loop-v
invariant-loop-v l = record {
  marks : l.pen.marks
      ++ parts_from (range_part l.begins l.frame.keys.now l.frame.lengths.now l.frame.a l.frame.b) l.first
      (drop l.v-index l.voices)
      ≡ parts_from (range_part l.begins l.frame.keys.now l.frame.lengths.now l.frame.a l.frame.b) 0 l.voices;
  few : l.first + verses_on (drop l.v-index l.voices) ≤ 128;
}
