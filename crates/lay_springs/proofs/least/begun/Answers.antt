use Rattle.std.proofs.Common.{◌≡◌, ap, pos, ◌≤ℤ◌, length, Some, slice_get, slice_set, arith, refl, to_z, of_z, w64}
use Rattle.std.proofs.Common.{get_or-set_same, negsuc, replicate}
use Rattle.std.proofs.lemmas.Int.{ints, to_z-of_z}
use Rattle.std.proofs.lemmas.List.{get_or-replicate}
use Rattle.std.proofs.lemmas.Option.{slice_get_read}
use Rattle.std.specs.Prelude.{FitsSigned}
use Rattle.lay_springs.specs.Place.{reach_at}
use Rattle.lay_springs.proofs.Extending.{placed_first, near_at, reach_is}
use Rattle.lay_springs.proofs.Clear.{inside_bound}
use Rattle.lay_springs.proofs.Fronts.{front_more, front_start}
use Rattle.lay_springs.proofs.least.begun.Goals.{After-first_at-first}
use Rattle.lay_springs.proofs.least.begun.Goals as goal

bound : (g : _) (c : After-first_at-first g) → c.first_at-first.result ≤ℤ pos 1048576
bound g c = c.first_at-first.ensures.least (pos 1048576) (omega (arith, ints))
    (inside_bound _ _ c.args.columns.gaps.lanes
    (λ lane l. near_at g.C.Spaced.reach_of c.args.columns.cols.now _ lane (λ col. g.met.C.Spaced.is_near col lane l) 0))

pub returns-clause-placed : goal.returns-clause-placed
returns-clause-placed g c = record {
  within = c.args.columns.some;
  tight = (omega arith, omega arith);
  placed =
      let e = c.first_at-first.ensures in
      rw (to_z-of_z w64 c.first_at-first.result (record { sfits = c.first_at-first.type_inv }))
      (placed_first _ _ _ _ _ _ (omega arith) e.begins e.inside e.least
      (bound g (goal.at.returns-clause-placed g c).After-first_at-first));
  front = λ _.
      let col : slice_get c.args.columns.cols.now 0 ≡ Some c.index-cols-0.result =
      slice_get_read c.args.columns.cols.now (length c.args.columns.cols.now) 0 c.index-cols-0.result refl
      c.args.columns.some
      c.index-cols-0.is in
      let fits : FitsSigned w64 c.first_at-first.result = record { sfits = c.first_at-first.type_inv } in
      let same : to_z w64 (of_z w64 c.first_at-first.result) ≡ c.first_at-first.result =
      to_z-of_z w64 c.first_at-first.result fits in
      let top = bound g (goal.at.returns-clause-placed g c).After-first_at-first in
      let moves = rw same at c.begin_fronts.ensures in
      rw same (front_more (reach_at g.C.Spaced.reach_of c.args.columns.cols.now) (length c.args.columns.gaps.list.now) 0
      c.first_at-first.result
      c.args.at.now (slice_set c.args.at.now 0 c.first_at-first.result)
      (replicate (length c.args.columns.gaps.list.now) (negsuc 1099511627775)) c.begin_fronts.new.front
      (λ k l. absurd (omega arith))
      (get_or-set_same c.args.at.now 0 c.first_at-first.result (pos 0) (omega arith))
      c.first_at-first.ensures.begins
      (omega (arith, ints))
      (λ lane lt.
      near_at g.C.Spaced.reach_of c.args.columns.cols.now _ lane
      (λ col. g.met.C.Spaced.is_near col lane (let l = c.args.columns.gaps.lanes in omega arith)) 0)
      (λ lane lt.
      rw (
        ap (λ r. r lane) (reach_is g.C.Spaced.reach_of c.args.columns.cols.now 0 c.index-cols-0.result col),
        get_or-replicate (length c.args.columns.gaps.list.now) lane (negsuc 1099511627775) (pos 0) lt,
      ) (moves lane (omega arith)))
      (front_start _ _ _ _
      (λ lane lt. get_or-replicate (length c.args.columns.gaps.list.now) lane (negsuc 1099511627775) (pos 0) lt)));
}
