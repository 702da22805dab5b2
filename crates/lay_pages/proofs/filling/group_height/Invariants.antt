use Rattle.std.proofs.Common.{◌≡◌, ◌≤◌, ◌+◌, ◌*◌, ◌^◌, length}
use Rattle.lay_pages.specs.Filling.{AreGoodBlocks, group_height}
use Rattle.lay_pages.proofs.filling.group_height.Given as goal

abbrev pub invariant-group : goal.invariant-group
invariant-group l = record {
  value : l.sum + group_height l.rest ≡ group_height l.blocks;
  good : AreGoodBlocks l.rest;
  most : l.sum + 2 ^ 42 * length l.rest ≤ 2 ^ 42 * length l.blocks;
}

abbrev pub decreases-group : goal.decreases-group
decreases-group l = length l.rest
