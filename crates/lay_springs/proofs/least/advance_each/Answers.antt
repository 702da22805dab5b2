use Rattle.std.proofs.{Common.{◌≤◌, length, arith, inl, inr, refl, w64}, lemmas.{Bool.cases_lt, Int.to_z-of_z}}
use Rattle.lay_springs.proofs.Fronts.{none_past}
use Rattle.lay_springs.proofs.least.advance_each.Goals as goal

pub returns : goal.returns
returns c = λ lane l. elim (cases_lt lane c.loop-lane.lane) [
  | inl before ↦
      rw (to_z-of_z w64 c.args.at (record { sfits = c.ranges.at.sfits })) at (c.loop-lane.invariant.done lane before)
  | inr following ↦
      let past : length c.args.row.now ≤ lane = let most = c.min-lane-end.ensures in
      let test = c.loop-lane-test.false in
      let same = c.loop-lane.auto.front in
      omega arith in
      rw (none_past c.args.row.now lane past, c.loop-lane.invariant.left lane following) refl
]
