use Rattle.std.proofs.Common.{◌≡◌, ◌++◌, All, drop, length}
use Rattle.{ps_text.specs.Range.{IsStaff}, set_staves.specs.Marks.{staves_at}}
use Rattle.set_staves.proofs.staves.staves_for.Given as goal

abbrev pub invariant-loop-staff : goal.invariant-loop-staff
invariant-loop-staff l = record {
  value : l.placed ++ staves_at l.width l.at l.top (drop (length l.yielded) l.staves) (drop (length l.yielded) l.bases)
      ≡ staves_at l.width l.at l.top l.staves l.bases;
  good : All IsStaff l.placed;
}
