use Rattle.std.proofs.Common.{◌≡◌, length}
use Rattle.lay_pages.specs.Even.{AreHeights}
use Rattle.layout_tests.proofs.blocks.costs_of.Given as goal

abbrev pub invariant-loop-group : goal.invariant-loop-group
invariant-loop-group l = record { within : AreHeights l.high l.heights; count : length l.heights ≡ l.group-index }
