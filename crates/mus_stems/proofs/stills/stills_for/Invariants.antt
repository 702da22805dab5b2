use Rattle.std.proofs.Common.{◌≡◌, ◌++◌, drop}
use Rattle.mus_stems.specs.Stills.{clefs_from, stills, AllCanStand}
use Rattle.mus_stems.proofs.stills.stills_for.Given as goal

abbrev pub invariant-loop-flat : goal.invariant-loop-flat
invariant-loop-flat l = record {
  good : AllCanStand (drop l.flat-index l.events) (clefs_from l.clef (drop l.flat-index l.events));
  stills : l.out ++ stills (drop l.flat-index l.events) (clefs_from l.clef (drop l.flat-index l.events))
      ≡ stills l.events (clefs_from l.fn.first l.events);
}
