-- There is a greatest force, or the columns can't be within the width at all.
use Rattle.std.proofs.Common.{ℕ, zero, suc, ◌<◌, ◌≤◌, inl, inr, ◌⊎◌, List, length, Option, Some, IfSome}
use Rattle.std.proofs.Common.{slice_index, arith, sym, subst}
use Rattle.std.proofs.lemmas.Bool.{cases_eq}
use Rattle.lay_springs.specs.declared.traits.Reach.{Reach}
use Rattle.lay_springs.specs.Fit.{Passes, CanStandWithin, IsGreatestForce}
use Rattle.lay_springs.proofs.Longer.{cannot_stand}
use Rattle.lay_springs.proofs.Made.{fits_or_passes}

module _ (n : ℕ) (reach : ℕ → ℕ → Option Reach) (gaps : List ℕ) (spring : ℕ → ℕ → ℕ) (width : ℕ) (some : 0 < n)
    (near : (k lane : ℕ) → lane < length gaps → IfSome (reach k lane) (λ r. (r.left ≤ 1048576) × (r.right ≤ 1048576)))
    (narrow : (lane : ℕ) → lane < length gaps → slice_index gaps lane ≤ 1048576)
    (short : (force i : ℕ) → force ≤ 2048 → spring force i ≤ 1048576) where
  never : (force : ℕ) → Passes n reach gaps spring width force → CanStandWithin n reach gaps spring width force → ⊥
  never force p c = cannot_stand n reach gaps spring width force force some (λ i. omega arith) p c

  below : (m : ℕ) → m ≤ 2048
      → ((g : ℕ) → m < g → g ≤ 2048 → CanStandWithin n reach gaps spring width g → ⊥)
      → ((force : ℕ) × IsGreatestForce n reach gaps spring width 2048 (Some force))
      ⊎ (CanStandWithin n reach gaps spring width 0 → ⊥)
  below zero b none = elim (fits_or_passes n reach gaps spring width 0 some near narrow (λ i. short 0 i b)) [
    | inl f ↦ inl (0, record { bound = b; fits = f; greatest = none; none = tt })
    | inr p ↦ inr (never 0 p)
  ]
  below (suc m) b none =
      elim (fits_or_passes n reach gaps spring width (suc m) some near narrow (λ i. short (suc m) i b)) [
        | inl f ↦ inl (suc m, record { bound = b; fits = f; greatest = none; none = tt })
        | inr p ↦
            below m (omega (arith, b)) (λ g l w c. elim (cases_eq (suc m) g) [
              | inl e ↦ never (suc m) p (subst (λ k. CanStandWithin n reach gaps spring width k) (sym e) c)
              | inr d ↦ none g (grind (arith, l, d)) w c
            ])
      ]

  pub has_force : ((force : ℕ) × IsGreatestForce n reach gaps spring width 2048 (Some force))
      ⊎ (CanStandWithin n reach gaps spring width 0 → ⊥)
  has_force = below 2048 (omega arith) (λ g l w c. omega (arith, l, w))
