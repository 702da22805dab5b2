use Rattle.std.proofs.Common.{◌≡◌, ◌-◌, pos, ◌≤ℤ◌, length, take, Some, subst, sym, slice_get, slice_index_or, arith}
use Rattle.std.proofs.Common.{refl, to_z, of_z, w64}
use Rattle.std.proofs.lemmas.Int.{ints}
use Rattle.std.proofs.lemmas.List.{get_or-take}
use Rattle.std.proofs.lemmas.Option.{slice_get_read}
use Rattle.lay_springs.specs.Fit.{IsEndOf}
use Rattle.lay_springs.specs.Place.{reach_at, length_at}
use Rattle.lay_springs.proofs.Extending.{reach_is}
use Rattle.lay_springs.proofs.Near.{end_near}
use Rattle.lay_springs.proofs.forces.end_at.Goals.{After-end_of}
use Rattle.lay_springs.proofs.forces.end_at.Goals as goal

module _ (g : _) (c : After-end_of g) where
  last : (pos 0 ≤ℤ slice_index_or c.place_all-progress.new.placing.at.now
      (length c.args.placing.now.columns.cols.now - 1) (pos 0))
      × (slice_index_or c.place_all-progress.new.placing.at.now (length c.args.placing.now.columns.cols.now - 1) (pos 0)
      ≤ℤ pos 281474976710656)
  last =
      c.place_all-progress.ensures.small (length c.args.placing.now.columns.cols.now - 1)
      (let s = c.args.placing.now.columns.some in omega arith)

  end : IsEndOf (g.C.Spaced.reach_of c.index-cols-last.result) (length c.args.placing.now.columns.gaps.list.now)
      (slice_index_or c.place_all-progress.new.placing.at.now (length c.args.placing.now.columns.cols.now - 1) (pos 0))
      c.end_of.result
  end =
      let low = last.0 in let high = last.1 in
      let same : to_z w64
      (of_z w64
      (slice_index_or c.place_all-progress.new.placing.at.now (length c.args.placing.now.columns.cols.now - 1) (pos 0)))
      ≡
      slice_index_or c.place_all-progress.new.placing.at.now (length c.args.placing.now.columns.cols.now - 1) (pos 0) =
      omega (arith, ints) in
      rw same at c.end_of.ensures

  last_end : IsEndOf
      (reach_at g.C.Spaced.reach_of c.args.placing.now.columns.cols.now
      (length c.args.placing.now.columns.cols.now - 1))
      (length c.args.placing.now.columns.gaps.list.now)
      (slice_index_or c.place_all-progress.new.placing.at.now (length c.args.placing.now.columns.cols.now - 1)
      (pos 0))
      c.end_of.result
  last_end =
      let col : slice_get c.args.placing.now.columns.cols.now (length c.args.placing.now.columns.cols.now - 1)
      ≡ Some c.index-cols-last.result =
      slice_get_read c.args.placing.now.columns.cols.now (length c.args.placing.now.columns.cols.now)
      (length c.args.placing.now.columns.cols.now - 1)
      c.index-cols-last.result refl
      (let s = c.args.placing.now.columns.some in omega arith) c.index-cols-last.is in
      subst (λ r.
      IsEndOf r (length c.args.placing.now.columns.gaps.list.now)
      (slice_index_or c.place_all-progress.new.placing.at.now
      (length c.args.placing.now.columns.cols.now - 1) (pos 0))
      c.end_of.result)
      (sym (reach_is g.C.Spaced.reach_of c.args.placing.now.columns.cols.now
      (length c.args.placing.now.columns.cols.now - 1)
      c.index-cols-last.result col)) end

  past : pos 0 ≤ℤ c.end_of.result
  past = let low = last.0 in let p = end.past in omega (arith, ints)

  below : c.end_of.result ≤ℤ pos 562949953421312
  below =
      let high = last.1 in
      end.least (pos 562949953421312) (omega (arith, ints)) (λ lane r l e.
      let near =
      rw e at (g.met.C.Spaced.is_near c.index-cols-last.result lane
      (let f = c.args.placing.now.columns.gaps.lanes in omega arith))
      in
      let right = near.1 in
      omega (arith, ints))

  same : to_z w64 (of_z w64 c.end_of.result) ≡ c.end_of.result
  same = let low = past in let high = below in omega (arith, ints)

pub returns-clause-end : goal.returns-clause-end
returns-clause-end g c =
    let s = (goal.at.returns-clause-end g c).After-end_of in
    rw (same g s) (record {
      x = take (length c.args.placing.now.columns.cols.now) c.place_all-progress.new.placing.at.now;
      place = c.place_all-progress.ensures.place;
      end =
          rw (get_or-take (length c.args.placing.now.columns.cols.now) c.place_all-progress.new.placing.at.now
          (length c.args.placing.now.columns.cols.now - 1)
          (pos 0)
          (let some = c.args.placing.now.columns.some in omega arith))
          (last_end g s);
    })

pub returns-clause-begins : goal.returns-clause-begins
returns-clause-begins g c =
    let s = (goal.at.returns-clause-begins g c).After-end_of in rw (same g s) (past g s)

pub returns-clause-small : goal.returns-clause-small
returns-clause-small g c = let s = (goal.at.returns-clause-small g c).After-end_of in rw (same g s) (below g s)

pub returns-clause-near : goal.returns-clause-near
returns-clause-near g c = λ linear weak drop width is stood.
    let s = (goal.at.returns-clause-near g c).After-end_of in
    rw (same g s)
    (end_near (length c.args.placing.now.columns.cols.now)
    (reach_at g.C.Spaced.reach_of c.args.placing.now.columns.cols.now)
    c.args.placing.now.columns.gaps.list.now
    (length_at g.C.Spring.length_of c.args.placing.now.columns.cols.now) c.args.force
    c.place_all-progress.result.tight.natural
    c.place_all-progress.result.tight.count c.place_all-progress.new.placing.at.now c.end_of.result
    c.args.placing.now.columns.some
    (c.place_all-progress.ensures.near linear) (last_end g s) weak drop width is stood)
