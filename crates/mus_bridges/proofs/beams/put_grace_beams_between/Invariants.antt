use Rattle.std.proofs.Common.{◌≡◌, ◌+◌, ◌++◌, drop}
use Rattle.{mus_drawn.specs.Good.{AreGoodMeasures}, mus_bridges.specs.Bridges.{grace_beams_between}}
use Rattle.mus_bridges.proofs.beams.put_grace_beams_between.Given as goal

abbrev pub invariant-loop-d : goal.invariant-loop-d
invariant-loop-d l = record {
  marks : l.out ++ grace_beams_between l.measure (drop l.d-index l.measures)
      ≡ l.fn.out ++ grace_beams_between l.a l.measures;
  good : AreGoodMeasures (drop l.d-index l.measures);
  measure : l.measure ≡ l.a + l.d-index;
}
