use Rattle.std.proofs.Common.{◌≡◌, ◌++◌, take}
use Rattle.glyph_paths.specs.Procedure.{path_text}
use Rattle.glyph_paths.proofs.procedures.put_path.Given as goal

abbrev pub invariant-loop-op : goal.invariant-loop-op
invariant-loop-op l = l.out ≡ l.fn.out ++ path_text (take l.op-index l.steps)
