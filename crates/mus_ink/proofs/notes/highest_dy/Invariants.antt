use Rattle.std.proofs.Common.{◌≡◌, drop}
use Rattle.mus_ink.specs.Notes.{highest_dy}
use Rattle.mus_ink.proofs.notes.highest_dy.Given as goal

abbrev pub invariant-loop-head : goal.invariant-loop-head
invariant-loop-head l = highest_dy l.clef l.high (drop l.head-index l.heads) ≡ highest_dy l.clef l.first l.heads
