use Rattle.std.{proofs.Common.◌≡◌, specs.Vec.Iter.into_iter_items}
use Rattle.mus_laid.specs.Ranked.{with_part}
use Rattle.mus_laid.proofs.columns.put_part.Given as goal

abbrev pub invariant-loop-laid : goal.invariant-loop-laid
invariant-loop-laid l =
    with_part (into_iter_items l.laid-iterator) l.columns
    ≡ with_part (into_iter_items l.initial.laid-iterator) l.fn.columns
