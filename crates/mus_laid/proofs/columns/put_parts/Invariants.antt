use Rattle.std.{proofs.Common.◌≡◌, specs.Vec.Iter.into_iter_items}
use Rattle.mus_laid.specs.Ranked.{with_parts}
use Rattle.mus_laid.proofs.columns.put_parts.Given as goal

abbrev pub invariant-loop-part : goal.invariant-loop-part
invariant-loop-part l =
    with_parts (into_iter_items l.part-iterator) l.columns
    ≡ with_parts (into_iter_items l.initial.part-iterator) l.fn.columns
