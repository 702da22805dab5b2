use Rattle.{std.proofs.Common.{length}, abc_lines.{specs.Forward.tunes_from, specs.Lines.readings, proofs.Stages.Tunes}}
use Rattle.abc_lines.proofs.cut.tunes_at.Given as goal

abbrev pub invariant-lines : goal.invariant-lines
invariant-lines l =
    Tunes l.tunes (tunes_from 1 l.fn.place.number (readings l.fn.place.rest.now)) l.at.number l.at.rest.now

abbrev pub decreases-lines : goal.decreases-lines
decreases-lines l = length l.at.rest.now
