use Rattle.{std.proofs.Common.{drop}, setting_tests.specs.Rising.{AreNumbersRisingFrom}}
use Rattle.setting_tests.proofs.slopes.rise_from.Given as goal

abbrev pub invariant-loop-x : goal.invariant-loop-x
invariant-loop-x l = AreNumbersRisingFrom l.before (drop l.x-index l.rest) → AreNumbersRisingFrom l.first l.rest
