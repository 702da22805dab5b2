use Rattle.std.{proofs.Common.{◌≡◌, length}, specs.Vec.Iter.{into_iter_items, into_iter_len}}
use Rattle.set_pages.specs.Ready.{AreNumbered}
use Rattle.set_pages.proofs.Stepping.{IsParting}
use Rattle.set_pages.proofs.builder.place_outcomes.Given as goal

abbrev pub invariant-loop-outcome : goal.invariant-loop-outcome
invariant-loop-outcome l = record {
  way : IsParting l.fn.begun (into_iter_items l.initial.outcome-iterator) l.spots l.begun
      (into_iter_items l.outcome-iterator) l.rest l.stood;
  numbered : AreNumbered l.rest;
  count : into_iter_len l.outcome-iterator ≡ length (into_iter_items l.outcome-iterator);
}
