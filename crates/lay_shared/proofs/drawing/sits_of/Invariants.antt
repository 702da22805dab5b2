use Rattle.std.proofs.Common.{◌≡◌, ◌++◌, drop}
use Rattle.lay_shared.specs.Drawn.{sits_of}
use Rattle.lay_shared.proofs.drawing.sits_of.Given as goal

abbrev pub invariant-loop-staff : goal.invariant-loop-staff
invariant-loop-staff l = l.sits ++ sits_of (drop l.staff-index l.staves) ≡ sits_of l.staves
