-- Tests of ranges, put together.
use Rattle.std.proofs.Common.{ℤ, ◌+ℤ◌, Bool, IsTrue, ◌↔◌}
use Rattle.ps_text.specs.Range.{IsNumber, IsOffset, IsPlacedMark, IsStem, IsArcEnd, IsStretch, IsSpan}

-- two tests for the two parts of a fact, if the first is true
pub joined_tests : {P Q R : Type 0} (a b : Bool)
    → (P → Q → R) → (R → P × Q) → (IsTrue a ↔ P) → (IsTrue b ↔ Q) → IsTrue a → IsTrue b ↔ R
joined_tests a b f g s t h = (λ k. f (s.0 h) (t.0 k), λ r. let p = (g r).1 in t.1 p)

pub placed_of : (y x dx dy : ℤ) (a b : Bool)
    → (IsTrue a ↔ (IsNumber y × IsNumber x)) → (IsTrue b ↔ (IsOffset dx × IsOffset dy)) → IsTrue a
    → IsTrue b ↔ IsPlacedMark y x dx dy
placed_of y x dx dy a b =
    joined_tests a b (λ n o. record { base = n.0; anchor = n.1; across = o.0; above = o.1 })
    (λ r. ((r.base, r.anchor), (r.across, r.above)))

pub stem_of : (y x dx from to : ℤ) (a b : Bool)
    → (IsTrue a ↔ IsPlacedMark y x dx from) → (IsTrue b ↔ IsOffset to) → IsTrue a → IsTrue b ↔ IsStem y x dx from to
stem_of y x dx from to a b = joined_tests a b (λ p o. record { start = p; end = o }) (λ r. (r.start, r.end))

pub end_of : (y height rise : ℤ) (a b : Bool)
    → (IsTrue a ↔ IsOffset height)
    → (IsTrue b ↔ (IsNumber (y +ℤ height) × IsNumber ((y +ℤ height) +ℤ rise)))
    → IsTrue a
    → IsTrue b ↔ IsArcEnd y height rise
end_of y height rise a b =
    joined_tests a b (λ o n. record { offset = o; point = n.0; above = n.1 }) (λ r. (r.offset, (r.point, r.above)))

pub both_of : {P Q : Type 0} (a b : Bool) → (IsTrue a ↔ P) → (IsTrue b ↔ Q) → IsTrue a → IsTrue b ↔ (P × Q)
both_of a b = joined_tests a b (λ p q. (p, q)) (λ r. r)

pub span_of : (y x1 x2 from to rise : ℤ) (a b c : Bool)
    → (IsTrue a ↔ (IsNumber y × IsOffset rise)) → IsTrue a → (IsTrue b ↔ IsStretch x1 x2)
    → (IsTrue c ↔ (IsArcEnd y from rise × IsArcEnd y to rise)) → IsTrue b
    → IsTrue c ↔ IsSpan y x1 x2 from to rise
span_of y x1 x2 from to rise a b c r h =
    joined_tests b c (λ s e. let n = r.0 h in record { base = n.0; stretch = s; rises = n.1; left = e.0; right = e.1 })
    (λ r. (r.stretch, (r.left, r.right)))
