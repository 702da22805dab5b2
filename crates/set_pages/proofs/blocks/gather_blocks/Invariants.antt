use Rattle.std.proofs.Common.{◌≡◌, ◌++◌, drop}
use Rattle.{lay_pages.specs.Filling.{AreGoodBlocks}, set_pages.specs.Drawings.{all_blocks}}
use Rattle.set_pages.proofs.blocks.gather_blocks.Given as goal

abbrev pub invariant-loop-outcome : goal.invariant-loop-outcome
invariant-loop-outcome l = record {
  value : l.blocks ++ all_blocks (drop l.outcome-index l.outcomes) ≡ l.fn.blocks ++ all_blocks l.outcomes;
  good : AreGoodBlocks l.fn.blocks → AreGoodBlocks l.blocks;
}
