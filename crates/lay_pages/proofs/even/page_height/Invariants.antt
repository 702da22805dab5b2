use Rattle.std.proofs.Common.{◌≡◌, ◌≤◌, ◌+◌, ◌*◌, ◌^◌, drop}
use Rattle.lay_pages.specs.Distances.{block_gap, tallest_page}
use Rattle.lay_pages.specs.Even.{stacked}
use Rattle.lay_pages.proofs.even.page_height.Given as goal

abbrev pub invariant-loop-height : goal.invariant-loop-height
invariant-loop-height l = record {
  value : l.stacked + stacked (drop l.height-index l.heights) ≡ stacked l.heights;
  most : l.stacked ≤ (tallest_page + block_gap) * l.height-index;
}
