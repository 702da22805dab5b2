use Rattle.std.proofs.Common.{◌≡◌, length, Some, slice_get, subst, sym, refl, w64}
use Rattle.std.proofs.lemmas.Int.{to_z-of_z}
use Rattle.std.proofs.lemmas.Option.{slice_get_read}
use Rattle.lay_springs.{specs.Place.IsFirst, proofs.Extending.reach_is}
use Rattle.lay_springs.proofs.least.first_at.Goals as goal

pub returns : goal.returns
returns g c =
    let col : slice_get c.args.cols.now 0 ≡ Some c.index-cols-0.result =
    slice_get_read c.args.cols.now (length c.args.cols.now) 0 c.index-cols-0.result refl c.requires.some
    c.index-cols-0.is in let e = c.first_of.ensures in
    rw (to_z-of_z w64 c.first_of.result (record { sfits = c.first_of.type_inv }))
    (subst (λ r. IsFirst r c.args.lanes c.first_of.result)
    (sym (reach_is g.C.Spaced.reach_of c.args.cols.now 0 c.index-cols-0.result col))
    (record { begins = e.begins; inside = e.inside; least = e.least }))
