use Rattle.std.{proofs.Common.◌≡◌, proofs.Common.◌++◌, proofs.Common.take, specs.List.flat_map}
use Rattle.ps_reports.specs.PaintText.{seg_text}
use Rattle.ps_reports.proofs.painted.put_path.Given as goal

abbrev pub invariant-loop-piece : goal.invariant-loop-piece
invariant-loop-piece l = l.out ≡ l.fn.out ++ flat_map seg_text (take l.piece-index l.path)
