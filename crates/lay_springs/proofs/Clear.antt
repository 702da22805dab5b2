-- One more lane.
use Rattle.std.proofs.Common.{◌≡◌, ℕ, ◌+◌, ◌<◌, ◌≤◌, ℤ, pos, ◌≤ℤ◌, Option, Some, IfSome, sym, ◌∙◌, arith, inl, inr}
use Rattle.std.proofs.Common.{subst}
use Rattle.std.proofs.lemmas.Bool.{cases_lt}
use Rattle.std.proofs.lemmas.Option.{same_Some}
use Rattle.std.proofs.lemmas.Int.{ints}
use Rattle.lay_springs.specs.{declared.traits.Reach.Reach, Place.IsInside}

-- what holds at k below n, or at n
pub below_or_at : (P : ℕ → Type 0) (k n : ℕ) → k < n + 1 → (k < n → P k) → P n → P k
below_or_at P k n l p q = elim (cases_lt k n) [ inl lt ↦ p lt | inr ge ↦ let e : n ≡ k = omega arith in subst P e q ]

module _ (reach : ℕ → Option Reach) (lane : ℕ) where
  pub inside_more : (old new : ℤ) (s : Reach)
      → reach lane ≡ Some s → old ≤ℤ new → pos s.left ≤ℤ new → IsInside reach lane old → IsInside reach (lane + 1) new
  inside_more old new s es l m h k u lt eu =
      below_or_at (λ k. reach k ≡ Some u → pos u.left ≤ℤ new) k lane lt
      (λ lt eu. let d = h k u lt eu in omega (arith, ints))
      (λ eu. let b : s ≡ u = same_Some s u (sym es ∙ eu) in rw (← b) m)
      eu

pub inside_bound : (reach : ℕ → Option Reach) (lanes : ℕ)
    → lanes < 4294967296
    → ((lane : ℕ) → lane < 4294967296 → IfSome (reach lane) (λ r. (r.left ≤ 1048576) × (r.right ≤ 1048576)))
    → IsInside reach lanes (pos 1048576)
inside_bound reach lanes few near lane s l es =
    let a = rw es at (near lane (omega arith)) in let left = a.0 in omega (arith, ints)
