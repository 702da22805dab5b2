use Rattle.std.proofs.Common.{◌≡◌, ◌<◌, ◌+◌, ◌-◌, ◌++◌, ◌∷◌, List, ℕ, decimal, drop, length, ap, arith, rules}
use Rattle.std.proofs.Common.{to_z-of_z}
use Rattle.std.proofs.Math.ListN.{set}
use Rattle.std.proofs.lemmas.Fmt.{length-decimal-le}
use Rattle.std.proofs.lemmas.List.{drop-set, length-append, length-drop, length-set}
use Rattle.ps_text.proofs.Numbers.{minus_first}
use Rattle.ps_text.proofs.fields.write_number.Goals as goal

pub write_digits-start-requires : goal.write_digits-start-requires
write_digits-start-requires c =
    (omega (arith, length-decimal-le 20 c.unsigned_abs.result (omega arith) (omega arith) (omega arith)), search rules)

pub returns-then-z-ge0-clause-short : goal.returns-then-z-ge0-clause-short
returns-then-z-ge0-clause-short c =
    omega (arith, length-decimal-le 20 c.unsigned_abs.result (omega arith) (omega arith) (omega arith))

pub overflow_sub-line-2 : goal.overflow_sub-line-2
overflow_sub-line-2 c =
    omega (arith, length-decimal-le 19 c.unsigned_abs.result (omega arith) (omega arith) (omega arith))

pub overflow_sub-result : goal.overflow_sub-result
overflow_sub-result c =
    omega (arith, length-decimal-le 19 c.unsigned_abs.result (omega arith) (omega arith) (omega arith))

pub returns-clause-short : goal.returns-clause-short
returns-clause-short c =
    omega (arith, length-decimal-le 19 c.unsigned_abs.result (omega arith) (omega arith) (omega arith))

pub returns-clause-written : goal.returns-clause-written
returns-clause-written c =
    let w = c.write_digits-start in
    let long = length-decimal-le 19 c.unsigned_abs.result (omega arith) (omega arith) (omega arith) in
    let e : w.result - 1 + 1 ≡ w.result = omega arith in
    let f : c.args.end - 1 + 1 ≡ c.args.end = omega arith in
    let room : w.result - 1 < length w.new.buf =
    omega (
      arith,
      ap length w.ensures.written,
      length-drop w.result w.new.buf,
      length-append (decimal c.unsigned_abs.result) (drop (c.args.end - 1) (set c.args.line.now (c.args.end - 1) 32)),
      length-drop (c.args.end - 1) (set c.args.line.now (c.args.end - 1) 32),
      length-set c.args.line.now (c.args.end - 1) 32,
    )
    in
    let back = to_z-of_z c.ranges.z in
    rw (
      drop-set w.new.buf (w.result - 1) 45 room,
      e,
      w.ensures.written,
      drop-set c.args.line.now (c.args.end - 1) 32 (omega arith),
      f,
      c.unsigned_abs.ensures.value,
      back,
    )
    (ap (λ (s : List ℕ). s ++ (32 ∷ drop c.args.end c.args.line.now))
    (minus_first c.args.z (rw back at c.if-z-ge0.false)))
