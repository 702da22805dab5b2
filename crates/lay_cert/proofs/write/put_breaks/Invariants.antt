use Rattle.std.proofs.Common.{◌≡◌, ◌++◌, [], map, take}
use Rattle.lay_cert.specs.{Lines.lines_then, declared.lines.ListingLine.ListingLine}
use Rattle.lay_cert.proofs.write.put_breaks.Given as goal

abbrev pub invariant-loop-bar : goal.invariant-loop-bar
invariant-loop-bar l = l.out ≡ l.fn.out ++ lines_then (map ListingLine.Choose (take l.bar-index l.breaks)) []
