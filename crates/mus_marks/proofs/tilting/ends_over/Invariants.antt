use Rattle.std.proofs.Common.{◌≡◌, ◌++◌, drop, map}
use Rattle.mus_marks.specs.Tilt.{anchor_at}
use Rattle.mus_marks.proofs.tilting.ends_over.Given as goal

abbrev pub invariant-loop-e : goal.invariant-loop-e
invariant-loop-e l =
    l.anchors ++ map (anchor_at l.columns.keys.now l.columns.at.now l.measure) (drop l.e-index l.events)
    ≡ map (anchor_at l.columns.keys.now l.columns.at.now l.measure) l.events
