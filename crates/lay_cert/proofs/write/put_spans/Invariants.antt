use Rattle.std.proofs.Common.{◌≡◌, ◌++◌, [], map, take}
use Rattle.lay_cert.specs.{Lines.lines_then, declared.lines.ListingLine.ListingLine}
use Rattle.lay_cert.proofs.write.put_spans.Given as goal

abbrev pub invariant-loop-span : goal.invariant-loop-span
invariant-loop-span l = l.out ≡ l.fn.out ++ lines_then (map ListingLine.OneSpan (take l.span-index l.spans)) []
