-- Only one list of abscissas is the least, and only one force the greatest.
use Rattle.std.proofs.Common.{◌≡◌, ℕ, ◌^◌, ◌<◌, ◌≤◌, ℤ, pos, List, length, Option, None, Some, sym, ap, ◌∙◌, refl}
use Rattle.std.proofs.Common.{arith, inl, inr}
use Rattle.std.proofs.lemmas.{Bool.cases_lt, List.ext_get_or, Int.ints}
use Rattle.lay_springs.specs.declared.traits.Reach.{Reach}
use Rattle.lay_springs.specs.Place.{IsPlace, reach_at, length_at}
use Rattle.lay_springs.specs.Fit.{Fits, Passes, IsGreatestForce, OneForce}
use Rattle.lay_springs.proofs.Ends.{length_rises}
use Rattle.lay_springs.proofs.Longer.{cannot_stand, stands}

pub one_place : (n : ℕ) (reach : ℕ → ℕ → Option Reach) (gaps : List ℕ) (spring : ℕ → ℕ) (x y : List ℤ)
    → IsPlace n reach gaps spring x → IsPlace n reach gaps spring y → x ≡ y
one_place n reach gaps spring x y h k =
    let c = h.count in
    ext_get_or (pos 0) x y (h.count ∙ sym k.count)
    (λ i l.
    let a = h.least y k.apart i (omega arith) in let b = k.least x h.apart i (omega arith) in
    omega (arith, ints))

module _ (n : ℕ) (reach : ℕ → ℕ → Option Reach) (gaps : List ℕ) (spring : ℕ → ℕ → ℕ) (width most : ℕ) where
  abbrev IsForce : Option ℕ → Type 0
  IsForce = IsGreatestForce n reach gaps spring width most

  not_less : (f g : ℕ) → IsForce (Some f) → IsForce (Some g) → f < g → ⊥
  not_less f g h k less = h.greatest g less k.bound (stands n reach gaps spring width g k.fits)

  pub same_force : (f g : ℕ) → IsForce (Some f) → IsForce (Some g) → f ≡ g
  same_force f g h k = elim (cases_lt f g) [
    | inl less ↦ absurd (not_less f g h k less)
    | inr more ↦ elim (cases_lt g f) [ inl less ↦ absurd (not_less g f k h less) | inr same ↦ omega arith ]
  ]

  not_none : (f : ℕ)
      → 0 < n → ((i : ℕ) → spring 0 i ≤ spring f i) → Passes n reach gaps spring width 0
      → Fits n reach gaps spring width f
      → ⊥
  not_none f some rises passes fits =
      cannot_stand n reach gaps spring width 0 f some rises passes (stands n reach gaps spring width f fits)

pub one_force : {C : Type 0} (reach : C → ℕ → Option Reach) (len : C → ℕ → ℕ)
    → ((c : C) (f g : ℕ) → f ≤ g → g < 2 ^ 16 → len c f ≤ len c g) → OneForce reach len
one_force reach len rises cols gaps width most = one
  where
    up : (f : ℕ) → f < 2 ^ 16 → (i : ℕ) → length_at len cols 0 i ≤ length_at len cols f i
    up f small = length_rises len cols 0 f (λ c. rises c 0 f (omega arith) small)

    one : (force other : Option ℕ)
        → 0 < length cols → most < 2 ^ 16
        → IsForce (length cols) (reach_at reach cols) gaps (length_at len cols) width most force
        → IsForce (length cols) (reach_at reach cols) gaps (length_at len cols) width most other
        → force ≡ other
    one None None some small h k = refl
    one None (Some f) some small h k =
        let below = k.bound in
        absurd (not_none _ _ _ _ width most f some (up f (omega (arith, small, below))) h.none k.fits)
    one (Some f) None some small h k =
        let below = h.bound in
        absurd (not_none _ _ _ _ width most f some (up f (omega (arith, small, below))) k.none h.fits)
    one (Some f) (Some g) some small h k = ap Some (same_force _ _ _ _ width most f g h k)
