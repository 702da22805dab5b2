use Rattle.std.proofs.Common.{◌≡◌, ◌-◌, ◌<◌, ◌≤◌, length}
use Rattle.lay_springs.specs.Spaced.{HavePlaced}
use Rattle.lay_springs.proofs.least.place_on.Given as goal

abbrev pub invariant-loop-done : goal.invariant-loop-done
invariant-loop-done g l = record {
  room : length l.columns.cols.now ≤ length l.at;
  one_each : length l.front ≡ length l.columns.gaps.list.now;
  some : 0 < l.done.count;
  force : l.done.force ≡ l.fn.begun.force;
  placed : HavePlaced g.C.Spaced.reach_of g.C.Spring.length_of l.columns l.done l.at l.front;
}

abbrev pub decreases-loop-done : goal.decreases-loop-done
decreases-loop-done g l = l.count - l.done.count
