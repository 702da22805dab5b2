use Rattle.{std.proofs.Common.{length}, abc_lines.proofs.Stages.{Part}}
use Rattle.abc_lines.proofs.cut.add_part.Given as goal

abbrev pub invariant-lines : goal.invariant-lines
invariant-lines l = Part l.fn.out l.out l.fn.place.number l.at.number l.fn.place.rest.now l.at.rest.now

abbrev pub decreases-lines : goal.decreases-lines
decreases-lines l = length l.at.rest.now
