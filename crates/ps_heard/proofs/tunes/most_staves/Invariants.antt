use Rattle.std.{proofs.Common.◌≡◌, proofs.Common.drop, specs.Prelude.max}
use Rattle.ps_heard.specs.Tunes.{most_staves}
use Rattle.ps_heard.proofs.tunes.most_staves.Given as goal

abbrev pub invariant-loop-system : goal.invariant-loop-system
invariant-loop-system l = max l.most (most_staves (drop l.system-index l.systems)) ≡ most_staves l.systems
