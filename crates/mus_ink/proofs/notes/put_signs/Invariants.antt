use Rattle.std.proofs.Common.{◌≡◌, length}
use Rattle.{mus_laid.specs.Ranked.{inked}, mus_ink.specs.Notes.{sign_marks}}
use Rattle.mus_ink.proofs.notes.put_signs.Given as goal

abbrev pub invariant-loop-head : goal.invariant-loop-head
invariant-loop-head l =
    inked l.pen (sign_marks l.clef l.rest l.places) ≡ inked l.fn.pen (sign_marks l.clef l.fn.heads l.fn.places)

abbrev pub decreases-loop-head : goal.decreases-loop-head
decreases-loop-head l = length l.rest
