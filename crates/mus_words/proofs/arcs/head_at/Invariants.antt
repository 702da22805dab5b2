use Rattle.std.{proofs.Common.◌≡◌, proofs.Common.drop, specs.List.find}
use Rattle.mus_arcs.specs.Arcs.{has_pitch}
use Rattle.mus_words.proofs.arcs.head_at.Given as goal

abbrev pub invariant-loop-head : goal.invariant-loop-head
invariant-loop-head l = find (has_pitch l.pitch) (drop l.head-index l.heads) ≡ find (has_pitch l.pitch) l.heads
