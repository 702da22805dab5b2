-- How much nearer columns come if the force falls.
use Rattle.std.specs.Int.{int_max}
use Rattle.std.proofs.Common.{◌≡◌, ◌≢◌, ℕ, min, ◌+◌, ◌-◌, ◌*◌, ◌/◌, ◌<◌, ◌≤◌, ℤ, pos, ◌+ℤ◌, ◌≤ℤ◌, ◌⊎◌, inl, inr, List}
use Rattle.std.proofs.Common.{length, Option, slice_index_or, arith}
use Rattle.std.proofs.lemmas.Int.{ints, clamps}
use Rattle.std.proofs.Math.Nat.{mul-le-mul_right, mul-add, add-mul}
use Rattle.lay_springs.{specs.{declared.traits.Reach.Reach, Place.{IsNearLeast, slack}, Fit.{IsEndOf, CanStandWithin}}}

parts : (a b c k : ℕ) → (a + 255 * min k a) / 256 + (b + c) / 256 ≤ b / 256 + (a + c + 255 * min (k + 1) (a + c)) / 256
parts a b c k = omega arith

-- one more spring
pub slack_more : (natural count n g drop : ℕ)
    → slack natural count drop + n * (g + drop) / 256 ≤ n * g / 256 + slack (natural + n) (count + 1) drop
slack_more natural count n g drop =
    rw (mul-add n g drop, add-mul natural n drop) (parts (natural * drop) (n * g) (n * drop) count)

pub slack_up : (natural count natural' count' drop : ℕ)
    → natural ≤ natural' → count ≤ count' → slack natural count drop ≤ slack natural' count' drop
slack_up natural count natural' count' drop l m = let up = mul-le-mul_right drop l in omega arith

-- the next column, whether or not the spring before it alone determines its abscissa
pub next_near : (natural count natural' count' n g drop : ℕ) (before next y z : ℤ)
    → (((before +ℤ pos (n * (g + drop) / 256)) ≡ next) × (natural' ≡ natural + n) × (count' ≡ count + 1))
    ⊎ (((before +ℤ pos (n * (g + drop) / 256)) ≢ next) × (natural' ≡ natural) × (count' ≡ count))
    → before ≤ℤ (y +ℤ pos (slack natural count drop)) → (y +ℤ pos (n * g / 256)) ≤ℤ z
    → (before +ℤ pos (n * (g + drop) / 256)) ≤ℤ next
    → ((w : ℤ) → (z +ℤ pos (slack natural count drop)) ≤ℤ w → (before +ℤ pos (n * (g + drop) / 256)) ≤ℤ w → next ≤ℤ w)
    → next ≤ℤ (z +ℤ pos (slack natural' count' drop))
next_near natural count natural' count' n g drop before next y z held old spring past least = elim held [
  | inl h ↦ (
      let more = slack_more natural count n g drop in let is = h.0 in
      rw (h.1, h.2) (omega (arith, ints, old, spring, more, is)))
  | inr h ↦ (
      let ne = h.0 in
      let near = least (int_max (z +ℤ pos (slack natural count drop)) (before +ℤ pos (n * (g + drop) / 256)))
      (omega (arith, ints, clamps)) (omega (arith, ints, clamps)) in
      rw (h.1, h.2) (omega (arith, ints, clamps, ne, near, past)))
]

-- if columns can be within a width at a lesser force, their end at this one is bounded
pub end_near : (n : ℕ) (reach : ℕ → ℕ → Option Reach) (gaps : List ℕ) (spring : ℕ → ℕ → ℕ) (force natural count : ℕ)
    (x : List ℤ) (e : ℤ)
    → 0 < n
    → IsNearLeast n reach gaps spring force natural count x
    → IsEndOf (reach (n - 1)) (length gaps) (slice_index_or x (n - 1) (pos 0)) e
    → (g drop width : ℕ) → g + drop ≡ force → CanStandWithin n reach gaps spring width g
    → e ≤ℤ pos (width + slack natural count drop)
end_near n reach gaps spring force natural count x e some near end g drop width is stands =
    let last = near g drop stands.y is stands.apart (n - 1) (omega arith) in let past = stands.past in
    end.least (pos (width + slack natural count drop)) (omega (arith, ints))
    (λ lane r l er. let reached = stands.reaches lane r l er in omega (arith, ints))
