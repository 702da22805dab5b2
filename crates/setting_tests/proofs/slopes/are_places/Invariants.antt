use Rattle.{std.proofs.Common.{drop}, mus_stems.specs.Slope.{ArePlaces}}
use Rattle.setting_tests.proofs.slopes.are_places.Given as goal

abbrev pub invariant-loop-x : goal.invariant-loop-x
invariant-loop-x l = ArePlaces (drop l.x-index l.at) → ArePlaces l.at
