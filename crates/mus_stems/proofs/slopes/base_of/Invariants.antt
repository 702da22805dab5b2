use Rattle.std.proofs.Common.{◌≡◌, ◌-ℤ◌, drop}
use Rattle.mus_stems.specs.Slope.{base_along, rise_at, AreOver}
use Rattle.mus_stems.proofs.slopes.base_of.Given as goal

abbrev pub invariant-loop-a : goal.invariant-loop-a
invariant-loop-a l = record {
  over : AreOver l.line (drop l.a-index l.others);
  value : base_along l.first.up l.line (l.first.own -ℤ rise_at l.line l.first.x) l.others
      ≡ base_along l.first.up l.line l.base (drop l.a-index l.others);
}
