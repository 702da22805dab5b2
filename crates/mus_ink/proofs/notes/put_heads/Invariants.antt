use Rattle.std.proofs.Common.{◌≡◌, length}
use Rattle.{mus_laid.specs.Ranked.{inked}, mus_ink.specs.Notes.{note_heads}}
use Rattle.mus_ink.proofs.notes.put_heads.Given as goal

abbrev pub invariant-loop-head : goal.invariant-loop-head
invariant-loop-head l =
    inked l.pen (note_heads l.clef l.sort l.rest l.shifts)
    ≡ inked l.fn.pen (note_heads l.clef l.sort l.fn.heads l.fn.shifts)

abbrev pub decreases-loop-head : goal.decreases-loop-head
decreases-loop-head l = length l.rest
