use Rattle.std.proofs.Common.{◌≡◌, ◌++◌, take}
use Rattle.set_tune.specs.Blocks.{system_blocks}
use Rattle.set_tune.proofs.blocks.put_systems.Given as goal

abbrev pub invariant-loop-system : goal.invariant-loop-system
invariant-loop-system l = l.blocks ≡ l.fn.blocks ++ system_blocks (take l.system-index l.heights)
