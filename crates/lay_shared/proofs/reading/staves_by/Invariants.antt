use Rattle.std.proofs.Common.{◌≡◌, drop}
use Rattle.lay_shared.specs.Reading.{run, start}
use Rattle.lay_shared.proofs.reading.staves_by.Given as goal

abbrev pub invariant-loop-sign : goal.invariant-loop-sign
invariant-loop-sign l = run l.at (drop l.sign-index l.signs) ≡ run start l.signs
