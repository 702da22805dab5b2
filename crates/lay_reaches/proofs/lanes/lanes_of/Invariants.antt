use Rattle.std.proofs.Common.{◌≡◌, ◌+◌, drop}
use Rattle.lay_reaches.specs.Lanes.{lanes_of}
use Rattle.lay_reaches.proofs.lanes.lanes_of.Given as goal

abbrev pub invariant-loop-count : goal.invariant-loop-count
invariant-loop-count l = l.lanes + lanes_of (drop l.count-index l.verses) ≡ lanes_of l.verses
