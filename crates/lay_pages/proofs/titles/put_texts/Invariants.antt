use Rattle.std.proofs.Common.{◌≡◌, ◌≤◌, ◌+◌, ◌*◌, drop}
use Rattle.lay_pages.specs.Distances.{big_row}
use Rattle.lay_pages.specs.Titles.{with_texts}
use Rattle.lay_pages.proofs.titles.put_texts.Given as goal

abbrev pub invariant-loop-text : goal.invariant-loop-text
invariant-loop-text l = record {
  value : with_texts l.width l.place l.block (drop l.text-index l.texts)
      ≡ with_texts l.width l.place l.fn.block l.texts;
  within : l.block.height ≤ l.fn.block.height + big_row * l.text-index;
}
