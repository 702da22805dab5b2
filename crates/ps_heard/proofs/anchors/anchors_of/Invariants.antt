use Rattle.std.proofs.Common.{◌≡◌, ◌++◌, drop}
use Rattle.ps_text.specs.Ranks.{anchors}
use Rattle.ps_heard.proofs.anchors.anchors_of.Given as goal

abbrev pub invariant-loop-staff : goal.invariant-loop-staff
invariant-loop-staff l = l.out ++ anchors (drop l.staff-index l.staves) ≡ anchors l.staves
