use Rattle.std.{proofs.Common.◌≡◌, proofs.Common.◌++◌, proofs.Common.drop, specs.List.flat_map}
use Rattle.ps_text.specs.Ranks.{anchor_of}
use Rattle.ps_heard.proofs.anchors.put_anchors.Given as goal

abbrev pub invariant-loop-mark : goal.invariant-loop-mark
invariant-loop-mark l = l.out ++ flat_map anchor_of (drop l.mark-index l.marks) ≡ l.fn.out ++ flat_map anchor_of l.marks
