use Rattle.std.proofs.Common.{◌≡◌, ◌++◌, drop}
use Rattle.lay_reaches.specs.Lanes.{gaps_of}
use Rattle.lay_reaches.proofs.lanes.gaps_of.Given as goal

abbrev pub invariant-loop-count : goal.invariant-loop-count
invariant-loop-count l = l.out ++ gaps_of (drop l.count-index l.verses) ≡ gaps_of l.verses
