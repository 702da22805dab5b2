use Rattle.std.proofs.Common.{ℕ, ◌≡◌, ◌-◌, ◌+◌, ◌*◌, arith, refl, add-one, get_or, take}
use Rattle.std.proofs.lemmas.Int.Digits.{digits_value_more}
use Rattle.std.specs.Str.Parse.{digits_value}
use Rattle.std.specs.Char.{digit_value}
use Rattle.abc_notes.proofs.Bounds.{limit_step, digit_range, digit_at, digit_value-is}
use Rattle.abc_notes.proofs.length.number_value.Goals as goal

pub loop-digit-preserved : goal.loop-digit-preserved
loop-digit-preserved c =
    let i = c.loop-digit.digit-index in let ds = c.args.digits.now in let b : ℕ = get_or ds i 0 in
    let r = digit_range b (digit_at ds i c.requires.digits (omega arith)) in
    let v : digit_value b ≡ b - 48 = digit_value-is b r.0 r.1 in
    let m : digits_value 10 (take (i + 1) ds) ≡ digits_value 10 (take i ds) * 10 + digit_value b =
    digits_value_more 10 ds i (omega arith) in
    let step = limit_step i c.loop-digit.value (b - 48) (omega (arith, c.requires.few)) c.loop-digit.invariant.small
    (omega arith) in
    let from : c.from.result ≡ b - 48 = c.from.ensures in
    record { value = rw (m, v, ← c.loop-digit.invariant.value, from) refl; small = rw (add-one, from) step }
