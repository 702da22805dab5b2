use Rattle.{std.proofs.Common.{drop}, mus_stems.specs.Stills.{AllCanStand, clefs_from}}
use Rattle.setting_tests.proofs.plans.can_all_stand.Given as goal

abbrev pub invariant-loop-flat : goal.invariant-loop-flat
invariant-loop-flat l = record {
  rest : AllCanStand (drop l.flat-index l.events) (clefs_from l.clef (drop l.flat-index l.events))
      → AllCanStand l.events (clefs_from l.fn.first l.events);
}
