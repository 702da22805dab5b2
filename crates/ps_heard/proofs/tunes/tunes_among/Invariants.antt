use Rattle.std.proofs.Common.{◌≡◌, ◌++◌, drop}
use Rattle.ps_heard.specs.Tunes.{tunes_of}
use Rattle.ps_heard.proofs.tunes.tunes_among.Given as goal

abbrev pub invariant-loop-at : goal.invariant-loop-at
invariant-loop-at l = l.out ++ tunes_of (drop l.at l.items) ≡ tunes_of l.items
