use Rattle.std.proofs.Common.{◌≡◌, ◌++◌, ◌≤◌, [], drop, take, reverse}
use Rattle.abc_words.specs.{Rows.place_at, Rows.row_ends, Verses.verses_from}
use Rattle.abc_words.proofs.verses.verses_of_voice.Given as goal

abbrev pub invariant-loop-item : goal.invariant-loop-item
invariant-loop-item l = record {
  ends : l.ends ++ row_ends (drop l.item-index l.items) ≡ row_ends l.items;
  list : l.list ++ verses_from l.id l.unnamed (reverse (take l.item-index l.items)) (drop l.item-index l.items)
      ≡ verses_from l.id l.unnamed [] l.items;
  place : l.place ≡ place_at l.id l.unnamed (reverse (take l.item-index l.items));
  row : l.place.row ≤ l.item-index;
}
