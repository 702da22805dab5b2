use Rattle.std.proofs.Common.{◌≡◌, ◌≤◌, ◌++◌, length, ℕ, None}
use Rattle.lay_pages.specs.Even.{AreHeights, group_heights, heights_from}
use Rattle.lay_pages.specs.Filling.{AreGoodBlocks, tall_from}
use Rattle.lay_pages.proofs.even.group_heights.Given as goal

abbrev pub invariant-groups : goal.invariant-groups
invariant-groups l = record {
  value : l.heights ++ heights_from l.tied l.rest ≡ group_heights l.blocks;
  within : AreHeights l.high l.heights;
  good : AreGoodBlocks l.rest;
  count : length l.rest ≤ length l.blocks;
  fits : (n : ℕ) × (tall_from l.high n l.tied l.rest ≡ None);
}

abbrev pub decreases-groups : goal.decreases-groups
decreases-groups l = length l.rest
