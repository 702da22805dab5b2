use Rattle.std.{proofs.Common.◌≡◌, proofs.Common.drop, specs.List.flat_map}
use Rattle.mus_laid.specs.Boxes.{over_marks, staff_heights}
use Rattle.mus_marks.proofs.staves.heights_on.Given as goal

abbrev pub invariant-loop-part : goal.invariant-loop-part
invariant-loop-part l =
    over_marks l.heights (flat_map (λ part. part) (drop l.part-index l.parts))
    ≡ staff_heights (flat_map (λ part. part) l.parts)
