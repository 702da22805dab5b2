use Rattle.std.proofs.Common.{◌≡◌, ◌++◌, take}
use Rattle.ps_text.specs.Document.{marks_text}
use Rattle.ps_text.proofs.document.put_marks.Given as goal

abbrev pub invariant-loop-m : goal.invariant-loop-m
invariant-loop-m l = l.out ≡ l.fn.out ++ marks_text l.y (take l.m-index l.marks)
