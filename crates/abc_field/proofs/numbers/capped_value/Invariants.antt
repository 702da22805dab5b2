use Rattle.std.proofs.Common.{◌≡◌, ◌≤◌, drop, min}
use Rattle.abc_field.specs.Numbers.{value_after, value_of}
use Rattle.abc_field.proofs.numbers.capped_value.Given as goal

abbrev pub invariant-loop-digit : goal.invariant-loop-digit
invariant-loop-digit l = record {
  rest : min (value_after l.value (drop l.digit-index l.digits)) 10000000 ≡ min (value_of l.digits) 10000000;
  small : l.value ≤ 10000000;
}
