use Rattle.std.{proofs.Common.{◌≡◌, ◌++◌, length, List, All, flat_map}, specs.Vec.Iter.{into_iter_items, into_iter_len}}
use Rattle.abc_music.specs.Good.{AreGoodTokens}
use Rattle.abc_items.specs.Good.{IsGoodItem}
use Rattle.abc_items.specs.Body.{ItemOrFault, placed_given, judged_items, first_item_fault, items_in}
use Rattle.abc_items.proofs.body.put_tokens.Given as goal

abbrev pub invariant-loop-placed : goal.invariant-loop-placed
invariant-loop-placed l = record {
  faults : (h : List ItemOrFault)
      → first_item_fault
      (judged_items l.fn.body.ids
      (flat_map (placed_given l.breaks l.line) (into_iter_items l.initial.placed-iterator) ++ h))
      ≡ first_item_fault
      (judged_items l.body.ids (flat_map (placed_given l.breaks l.line) (into_iter_items l.placed-iterator) ++ h));
  items : (h : List ItemOrFault)
      → l.fn.body.items
      ++ items_in (flat_map (placed_given l.breaks l.line) (into_iter_items l.initial.placed-iterator) ++ h)
      ≡ l.body.items ++ items_in (flat_map (placed_given l.breaks l.line) (into_iter_items l.placed-iterator) ++ h);
  good : All IsGoodItem l.body.items;
  tokens : AreGoodTokens (into_iter_items l.placed-iterator);
  count : into_iter_len l.placed-iterator ≡ length (into_iter_items l.placed-iterator);
}
