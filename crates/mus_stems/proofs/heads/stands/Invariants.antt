use Rattle.std.proofs.Common.{◌≡◌, ◌++◌, drop, map}
use Rattle.mus_stems.specs.Heads.{AllNear, stand_of}
use Rattle.mus_stems.proofs.heads.stands.Given as goal

abbrev pub invariant-loop-head : goal.invariant-loop-head
invariant-loop-head l = record {
  near : AllNear (map (stand_of l.clef) (drop l.head-index l.heads));
  stands : l.out ++ map (stand_of l.clef) (drop l.head-index l.heads) ≡ map (stand_of l.clef) l.heads;
}
