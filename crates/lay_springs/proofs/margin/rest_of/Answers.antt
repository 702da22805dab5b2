use Rattle.std.proofs.Common.{◌≡◌, ◌-◌, ℤ, pos, length, Some, subst, sym, slice_get, slice_index_or, arith, refl, to_z}
use Rattle.std.proofs.Common.{of_z, w64}
use Rattle.std.proofs.lemmas.Int.{ints}
use Rattle.std.proofs.lemmas.Option.{slice_get_read}
use Rattle.lay_springs.specs.Place.{reach_at}
use Rattle.lay_springs.specs.Fit.{IsEndOf}
use Rattle.lay_springs.proofs.Extending.{reach_is}
use Rattle.lay_springs.proofs.margin.rest_of.Goals.{After-end_of}
use Rattle.lay_springs.proofs.margin.rest_of.Goals as goal

ends : (g : _) (c : After-end_of g)
    → IsEndOf (reach_at g.C.Spaced.reach_of c.args.columns.cols.now (length c.args.columns.cols.now - 1))
    (length c.args.columns.gaps.list.now)
    (slice_index_or c.args.at.now (length c.args.columns.cols.now - 1) (pos 0)) c.end_of.result
ends g c =
    let at : ℤ = slice_index_or c.args.at.now (length c.args.columns.cols.now - 1) (pos 0) in
    let same : to_z w64 (of_z w64 at) ≡ at = omega (arith, ints) in
    let col : slice_get c.args.columns.cols.now (length c.args.columns.cols.now - 1) ≡ Some c.index-cols-last.result =
    slice_get_read c.args.columns.cols.now (length c.args.columns.cols.now) (length c.args.columns.cols.now - 1)
    c.index-cols-last.result refl
    (let s = c.args.columns.some in omega arith) c.index-cols-last.is in
    subst (λ r. IsEndOf r (length c.args.columns.gaps.list.now) at c.end_of.result)
    (sym (reach_is g.C.Spaced.reach_of c.args.columns.cols.now (length c.args.columns.cols.now - 1)
    c.index-cols-last.result col))
    (rw same at c.end_of.ensures)

pub overflow_cast-result : goal.overflow_cast-result
overflow_cast-result g c =
    let from = c.from.ensures in
    let e = ends g (goal.at.overflow_cast-result g c).After-end_of in
    let past = e.past in
    let le = c.requires.fits c.end_of.result e in
    omega (arith, ints)

pub returns : goal.returns
returns g c =
    let from = c.from.ensures in
    let e = ends g (goal.at.returns g c).After-end_of in
    let past = e.past in
    let le = c.requires.fits c.end_of.result e in
    (c.end_of.result, e, omega (arith, ints))
