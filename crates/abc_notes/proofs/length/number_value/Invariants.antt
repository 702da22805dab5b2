use Rattle.std.{proofs.Common.◌≡◌, proofs.Common.◌<◌, proofs.Common.take, specs.Str.Parse.digits_value}
use Rattle.abc_notes.specs.Lengths.{limit_at}
use Rattle.abc_notes.proofs.length.number_value.Given as goal

abbrev pub invariant-loop-digit : goal.invariant-loop-digit
invariant-loop-digit l =
    record { value : l.value ≡ digits_value 10 (take l.digit-index l.digits); small : l.value < limit_at l.digit-index }
