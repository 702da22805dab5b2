-- Bounds of written lengths, and good keys.
use Rattle.std.proofs.Common.{◌≡◌, subst, sym, ℕ, ◌*◌, ◌^◌, ◌≤◌, arith, Option, Some, IsTrue, IfOk, Result, Ok, Err}
use Rattle.std.proofs.lemmas.Nat.{mul-le}
use Rattle.mus_units.specs.declared.key.Key.{Key}
use Rattle.mus_units.specs.declared.value.Frac.{Frac}
use Rattle.mus_units.specs.Good.{IsGoodKey, IsGoodUnit, is_halving}
use Rattle.abc_field.specs.Keys.{GoodKeyIn}
use Rattle.abc_steps.specs.declared.step.WrittenSound.{WrittenSound}
use Rattle.abc_steps.specs.Good.{IsGoodSound}
use Rattle.abc_steps.specs.Lengths.{IsFactor, IsLength}

pub good_copy : {E : Type 0} (key : Option Key) (whole : Key) (copy : Result Key E)
    → key ≡ Some whole → GoodKeyIn key → IfOk copy (λ k. k ≡ whole) → IfOk copy (λ k. IsGoodKey k)
good_copy key whole (Ok k) is good same =
    let P : Key → Type 0 = λ k. IsGoodKey k in subst P (sym same) (subst GoodKeyIn is good)
good_copy key whole (Err e) is good same = tt

halving_some : (n : ℕ) → IsTrue (is_halving n) → 1 ≤ n
halving_some n h = grind arith

halving_high : (n : ℕ) → IsTrue (is_halving n) → n ≤ 64
halving_high n h = grind arith

product_some : (a b c d : ℕ) → 1 ≤ a → 1 ≤ b → 1 ≤ c → 1 ≤ d → 1 ≤ a * b * (c * d)
product_some a b c d ha hb hc hd = mul-le 1 1 (a * b) (c * d) (mul-le 1 1 a b ha hb) (mul-le 1 1 c d hc hd)

product_high : (a b c d A B C D : ℕ) → a ≤ A → b ≤ B → c ≤ C → d ≤ D → a * b * (c * d) ≤ A * B * (C * D)
product_high a b c d A B C D ha hb hc hd =
    mul-le (a * b) (c * d) (A * B) (C * D) (mul-le a b A B ha hb) (mul-le c d C D hc hd)

pub good_length : (unit : Frac) (s : WrittenSound) (l r : Frac)
    → IsGoodUnit unit → IsGoodSound s → IsFactor l → IsFactor r
    → IsLength (record { num = s.num * unit.num * (l.num * r.num); den = s.den * unit.den * (l.den * r.den) })
good_length unit s l r u g left right =
    let one : unit.num ≤ 1 = omega arith in
    let num : s.num * unit.num * (l.num * r.num) ≤ 2 ^ 40 * 1 * (15 * 15) =
    product_high s.num unit.num l.num r.num (2 ^ 40) 1 15 15 g.num_high one left.num_high right.num_high in
    let den : s.den * unit.den * (l.den * r.den) ≤ 2 ^ 40 * 64 * (8 * 8) = product_high s.den unit.den l.den r.den
    (2 ^ 40) 64 8 8 g.den_high (halving_high unit.den u.1) left.den_high right.den_high in
    record {
      some = product_some s.num unit.num l.num r.num g.some (omega arith) left.some right.some;
      num_high = omega arith;
      above = product_some s.den unit.den l.den r.den g.above (halving_some unit.den u.1) left.above right.above;
      den_high = omega arith;
    }
