use Rattle.std.proofs.Common.{◌≡◌, ◌+◌, drop, length}
use Rattle.lay_reaches.specs.{Lanes.lanes_of, Widened.HaveGoodMarks, Widened.widened_by_staves}
use Rattle.lay_reaches.proofs.reaches.widen_by_staves.Given as goal

abbrev pub invariant-loop-staff : goal.invariant-loop-staff
invariant-loop-staff l = record {
  good : HaveGoodMarks (drop (length l.yielded) l.staves);
  lanes : l.start + lanes_of (drop (length l.yielded) l.verses) ≡ lanes_of l.verses;
  columns : widened_by_staves l.columns l.start (drop (length l.yielded) l.staves) (drop (length l.yielded) l.verses)
      ≡ widened_by_staves l.fn.columns 0 l.staves l.verses;
}
