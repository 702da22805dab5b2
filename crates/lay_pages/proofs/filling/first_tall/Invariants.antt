use Rattle.std.proofs.Common.{◌≡◌, ◌+◌, length}
use Rattle.lay_pages.specs.Filling.{AreGoodBlocks, tall_from, first_tall}
use Rattle.lay_pages.proofs.filling.first_tall.Given as goal

abbrev pub invariant-groups : goal.invariant-groups
invariant-groups l = record {
  value : tall_from l.high l.number l.tied l.rest ≡ first_tall l.high l.blocks;
  good : AreGoodBlocks l.rest;
  count : l.number + length l.rest ≡ length l.blocks;
}

abbrev pub decreases-groups : goal.decreases-groups
decreases-groups l = length l.rest
