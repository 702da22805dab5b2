use Rattle.std.proofs.Common.{◌≡◌, ◌++◌, drop}
use Rattle.mus_score.specs.GoodScore.{events_of}
use Rattle.mus_score.proofs.leaves.events.Given as goal

abbrev pub invariant-loop-m : goal.invariant-loop-m
invariant-loop-m l = l.events ++ events_of (drop l.m-index l.measures) ≡ events_of l.measures
