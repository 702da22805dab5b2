use Rattle.lay_shared.{specs.Alike.HaveSameChanges, proofs.EachLaws.Settles}
use Rattle.lay_shared.proofs.alike.are_shared.Given as goal

abbrev pub invariant-loop-staff : goal.invariant-loop-staff
invariant-loop-staff l = Settles (λ staff. HaveSameChanges l.voices staff.voices) l.staves l.staff-index
