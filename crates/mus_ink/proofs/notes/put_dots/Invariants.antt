use Rattle.std.proofs.Common.{◌≡◌, drop}
use Rattle.{mus_laid.specs.Ranked.{inked}, mus_ink.specs.Notes.{dot_marks}}
use Rattle.mus_ink.proofs.notes.put_dots.Given as goal

abbrev pub invariant-loop-dot : goal.invariant-loop-dot
invariant-loop-dot l = inked l.pen (dot_marks (drop l.dot-index l.dots)) ≡ inked l.fn.pen (dot_marks l.dots)
