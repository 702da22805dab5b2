use Rattle.std.proofs.Common.{◌≡◌, All, length}
use Rattle.std.specs.Vec.Iter.{into_iter_items, into_iter_len}
use Rattle.eng_jobs.proofs.ZipLaws.{Awaits}
use Rattle.eng_jobs.proofs.work.work_in_turn.Given as goal

-- together with the outcomes of the remaining items, the outcomes so far are those of all items
abbrev pub invariant-loop-item : goal.invariant-loop-item
invariant-loop-item g l = record {
  awaits : Awaits (g.W.Work.gives l.work) (into_iter_items l.initial.item-iterator)
      (into_iter_items l.item-iterator) l.outcomes;
  taken : All (g.W.Work.takes l.work) (into_iter_items l.item-iterator);
  count : into_iter_len l.item-iterator ≡ length (into_iter_items l.item-iterator);
}
