use Rattle.std.proofs.Common.{◌≡◌, ◌++◌, length}
use Rattle.mus_stems.specs.Slope.{sloped_ends, AreAnchors, RisesInBeams}
use Rattle.mus_stems.proofs.slopes.ends_for.Given as goal

abbrev pub invariant-loop-a : goal.invariant-loop-a
invariant-loop-a l = record {
  anchors : AreAnchors l.rest;
  rise : RisesInBeams l.rest;
  ends : l.out ++ sloped_ends l.rest ≡ sloped_ends l.events;
}

abbrev pub decreases-loop-a : goal.decreases-loop-a
decreases-loop-a l = length l.rest
