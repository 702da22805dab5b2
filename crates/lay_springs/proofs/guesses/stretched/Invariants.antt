use Rattle.std.proofs.Common.{◌≡◌, ◌+◌, ◌-◌, ◌*◌, ◌≤◌, ℕ, ℤ, pos, ◌+ℤ◌, ◌≤ℤ◌, List, length, slice_index_or}
use Rattle.lay_springs.specs.Place.{reach_at, length_at, slack, IsNearLeast, StandApart}
use Rattle.lay_springs.proofs.guesses.stretched.Given as goal

abbrev pub invariant-loop-j : goal.invariant-loop-j
invariant-loop-j g l = record {
  begins : pos 0 ≤ℤ l.end;
  small : l.end ≤ℤ pos (1048576 + 3145728 * l.j);
  natural : l.natural ≤ 1048576 * (l.j + 1);
  count : l.count ≤ l.j + 1;
  near : (gaps : List ℕ) (x : List ℤ) → slice_index_or x (l.placed.count - 1) (pos 0) ≡ l.fn.from
      → IsNearLeast l.placed.count (reach_at g.C.Spaced.reach_of l.cols) gaps (length_at g.C.Spring.length_of l.cols)
      l.placed.force l.placed.tight.natural l.placed.tight.count x
      → (f drop : ℕ) (y : List ℤ) → f + drop ≡ l.placed.force
      → StandApart (length l.cols) (reach_at g.C.Spaced.reach_of l.cols) gaps (length_at g.C.Spring.length_of l.cols f)
      y
      → l.end ≤ℤ (slice_index_or y l.j (pos 0) +ℤ pos (slack l.natural l.count drop));
}
