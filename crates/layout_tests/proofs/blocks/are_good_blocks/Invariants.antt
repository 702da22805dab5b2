use Rattle.{std.proofs.Common.{drop}, lay_pages.specs.Filling.{AreGoodBlocks}}
use Rattle.layout_tests.proofs.blocks.are_good_blocks.Given as goal

abbrev pub invariant-loop-block : goal.invariant-loop-block
invariant-loop-block l = AreGoodBlocks (drop l.block-index l.blocks) → AreGoodBlocks l.blocks
