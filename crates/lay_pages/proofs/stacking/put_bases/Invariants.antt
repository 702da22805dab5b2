use Rattle.std.proofs.Common.{◌≡◌, ◌≤◌, ◌+◌, ◌++◌, ◌*◌, ◌^◌, drop, length}
use Rattle.lay_pages.specs.Stacking.{bases_after, bottom_after}
use Rattle.lay_pages.proofs.stacking.put_bases.Given as goal

abbrev pub invariant-loop-staff : goal.invariant-loop-staff
invariant-loop-staff l = record {
  bases : l.bases ++ bases_after l.bottom (drop (length l.yielded) l.staves) (drop (length l.yielded) l.gaps)
      ≡ l.fn.bases ++ bases_after l.fn.bottom l.staves l.gaps;
  bottom : bottom_after l.bottom (drop (length l.yielded) l.staves) (drop (length l.yielded) l.gaps)
      ≡ bottom_after l.fn.bottom l.staves l.gaps;
  low : l.bottom ≤ 2 ^ 33 * (length l.yielded + 1);
}
