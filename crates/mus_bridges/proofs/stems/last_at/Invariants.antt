use Rattle.std.proofs.Common.{◌≡◌, drop}
use Rattle.mus_bridges.specs.Beams.{last_at}
use Rattle.mus_bridges.proofs.stems.last_at.Given as goal

abbrev pub invariant-loop-q : goal.invariant-loop-q
invariant-loop-q l =
    last_at l.level l.last (drop l.q-index l.following) ≡ last_at l.level l.initial.last l.following
