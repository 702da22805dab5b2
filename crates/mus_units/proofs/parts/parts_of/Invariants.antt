use Rattle.std.proofs.Common.{◌≡◌, ◌≤◌, ◌-◌, ◌++◌, length, option_map}
use Rattle.mus_units.{specs.Parts.cut_in, proofs.Cutting.IsCut}
use Rattle.mus_units.proofs.parts.parts_of.Given as goal

abbrev pub invariant-loop-i : goal.invariant-loop-i
invariant-loop-i l = record {
  cut : IsCut l.all l.parts l.left;
  count : length l.parts ≡ l.i;
  few : l.i ≤ 8;
  small : l.left ≤ l.all;
  list : option_map (λ vs. l.parts ++ vs) (cut_in (8 - l.i) l.left) ≡ cut_in 8 l.all;
}
