use Rattle.{std.proofs.Common.{drop}, lay_pages.specs.Stacking.{AreGoodStaves}}
use Rattle.layout_tests.proofs.blocks.are_good_staves.Given as goal

abbrev pub invariant-loop-staff : goal.invariant-loop-staff
invariant-loop-staff l = AreGoodStaves (drop l.staff-index l.staves) → AreGoodStaves l.staves
