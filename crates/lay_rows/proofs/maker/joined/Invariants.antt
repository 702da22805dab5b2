use Rattle.std.{proofs.Common.◌≡◌, proofs.Common.◌++◌, specs.List.flat_map, specs.Vec.Iter.into_iter_items}
use Rattle.lay_rows.proofs.maker.joined.Given as goal

abbrev pub invariant-loop-part : goal.invariant-loop-part
invariant-loop-part l =
    l.rows ++ flat_map (λ part. part) (into_iter_items l.part-iterator)
    ≡ flat_map (λ part. part) (into_iter_items l.initial.part-iterator)
