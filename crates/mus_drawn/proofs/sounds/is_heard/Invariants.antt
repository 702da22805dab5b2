use Rattle.std.{proofs.Common.◌≡◌, proofs.Common.drop, specs.List.list_any}
use Rattle.mus_drawn.specs.Hearing.{is_heard_at}
use Rattle.mus_drawn.proofs.sounds.is_heard.Given as goal

abbrev pub invariant-loop-x : goal.invariant-loop-x
invariant-loop-x l = list_any (is_heard_at l.pitch) (drop l.x-index l.heads) ≡ list_any (is_heard_at l.pitch) l.heads
