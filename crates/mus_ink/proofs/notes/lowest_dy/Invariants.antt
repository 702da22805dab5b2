use Rattle.std.proofs.Common.{◌≡◌, drop}
use Rattle.mus_ink.specs.Notes.{lowest_dy}
use Rattle.mus_ink.proofs.notes.lowest_dy.Given as goal

abbrev pub invariant-loop-head : goal.invariant-loop-head
invariant-loop-head l = lowest_dy l.clef l.low (drop l.head-index l.heads) ≡ lowest_dy l.clef l.first l.heads
