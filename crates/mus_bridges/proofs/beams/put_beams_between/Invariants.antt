use Rattle.std.proofs.Common.{◌≡◌, ◌+◌, ◌++◌, drop}
use Rattle.mus_bridges.specs.Bridges.{beams_between}
use Rattle.mus_bridges.specs.Ends.{measure_ended, over}
use Rattle.mus_bridges.proofs.beams.put_beams_between.Given as goal

abbrev pub invariant-loop-i : goal.invariant-loop-i
invariant-loop-i l = record {
  marks : l.out ++ beams_between l.measure (over measure_ended (drop l.i l.ends) (drop l.i l.measures))
      ≡ l.fn.out ++ beams_between l.a (over measure_ended l.ends l.measures);
  measure : l.measure ≡ l.a + l.i;
}
