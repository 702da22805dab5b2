use Rattle.std.proofs.Common.{◌≡◌, ◌++◌, take}
use Rattle.glyph_paths.specs.Procedure.{numbers}
use Rattle.glyph_paths.proofs.numbers.put_numbers.Given as goal

abbrev pub invariant-loop-z : goal.invariant-loop-z
invariant-loop-z l = l.out ≡ l.fn.out ++ numbers (take l.z-index l.zs)
