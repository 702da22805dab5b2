use Rattle.std.proofs.Common.{◌≡◌, ℕ, suc, ◌∷◌, ◌+◌, ◌*◌, ◌-◌, List, drop, get_or, arith, drop-cons, min}
use Rattle.abc_field.proofs.NumberLaws.{value_after-min}
use Rattle.abc_field.proofs.numbers.capped_value.Goals as goal

pub loop-digit-preserved : goal.loop-digit-preserved
loop-digit-preserved c =
    let ds : List ℕ = c.args.digits.now in
    let i : ℕ = c.loop-digit.digit-index in
    let next : ℕ = c.loop-digit.value * 10 + (get_or ds i 0 - 48) in
    let one : i + 1 ≡ suc i = omega arith in
    let now : drop i ds ≡ get_or ds i 0 ∷ drop (suc i) ds = drop-cons ds i 0 (omega arith) in
    let capped : min c.with_digit-value.result 10000000 ≡ min next 10000000 =
    omega (arith, c.with_digit-value.ensures.value) in
    record {
      rest =
          rw (one, value_after-min (drop (suc i) ds) c.with_digit-value.result next capped)
          (rw now at c.loop-digit.invariant.rest);
      small = c.with_digit-value.ensures.small;
    }
