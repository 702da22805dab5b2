use Rattle.std.proofs.Common.{◌≡◌, ◌++◌, [], drop}
use Rattle.lay_shared.specs.Reading.{plan_signs_from}
use Rattle.lay_shared.proofs.signs.signs_of.Given as goal

abbrev pub invariant-loop-byte : goal.invariant-loop-byte
invariant-loop-byte l =
    l.signs ++ plan_signs_from l.ids l.word (drop l.byte-index l.text) ≡ plan_signs_from l.ids [] l.text
