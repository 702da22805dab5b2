use Rattle.std.{proofs.Common.◌≡◌, proofs.Common.drop, specs.List.find}
use Rattle.mus_drawn.specs.Hearing.{is_tied_to}
use Rattle.mus_drawn.proofs.sounds.tied_to.Given as goal

abbrev pub invariant-loop-x : goal.invariant-loop-x
invariant-loop-x l = find (is_tied_to l.pitch) (drop l.x-index l.heads) ≡ find (is_tied_to l.pitch) l.heads
