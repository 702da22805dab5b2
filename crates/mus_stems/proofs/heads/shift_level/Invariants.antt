use Rattle.std.proofs.Common.{◌≡◌, List, drop}
use Rattle.mus_stems.specs.Heads.{AllNear, Taken, shifted, head_shift, taken_at}
use Rattle.mus_stems.proofs.heads.shift_level.Given as goal

abbrev pub invariant-loop-s : goal.invariant-loop-s
invariant-loop-s l = record {
  count : l.i ≡ l.s-index;
  near : AllNear (drop l.s-index l.stands);
  moved : (rest : List Taken)
      → shifted (head_shift l.up) l.before (taken_at l.up l.v l.i (drop l.s-index l.stands) rest) l.shifts
      ≡ shifted (head_shift l.up) l.fn.last (taken_at l.up l.v 0 l.stands rest) l.fn.shifts;
}
