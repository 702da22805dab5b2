use Rattle.std.{proofs.Common.◌≡◌, proofs.Common.◌++◌, specs.List.flat_map, specs.Vec.Iter.into_iter_items}
use Rattle.mus_laid.proofs.columns.joined.Given as goal

abbrev pub invariant-loop-column : goal.invariant-loop-column
invariant-loop-column l =
    l.out ++ flat_map (λ column. column) (into_iter_items l.column-iterator)
    ≡ flat_map (λ column. column) (into_iter_items l.initial.column-iterator)
