use Rattle.std.proofs.Common.{◌≡◌, ◌++◌, drop}
use Rattle.mus_stems.specs.Slope.{ends_along, AreOver}
use Rattle.mus_stems.proofs.slopes.put_ends.Given as goal

abbrev pub invariant-loop-a : goal.invariant-loop-a
invariant-loop-a l = record {
  over : AreOver l.line (drop l.a-index l.beam);
  ends : l.out ++ ends_along l.line l.fn.base (drop l.a-index l.beam) ≡ l.fn.out ++ ends_along l.line l.fn.base l.beam;
}
