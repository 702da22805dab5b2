-- The end of the columns, and how it grows with the force.
use Rattle.std.proofs.Common.{◌≡◌, ℕ, ◌+◌, ◌-◌, ◌*◌, ◌/◌, ◌<◌, ◌≤◌, ℤ, pos, ◌+ℤ◌, ◌≤ℤ◌, List, Option, None, Some}
use Rattle.std.proofs.Common.{option_map, unwrap_or, slice_get, arith, sym, ◌∙◌}
use Rattle.std.proofs.lemmas.Int.{ints}
use Rattle.std.proofs.lemmas.Option.{same_Some}
use Rattle.lay_springs.specs.declared.traits.Reach.{Reach}
use Rattle.lay_springs.specs.Place.{length_at, AreLinear, StandApart}
use Rattle.lay_springs.specs.Fit.{IsEndOf, EndsAt}
use Rattle.lay_springs.proofs.Clear.{below_or_at}

pub end_more : (reach : ℕ → Option Reach) (lane : ℕ) (at old new : ℤ) (r : Reach) → reach lane ≡ Some r
    → old ≤ℤ new → (at +ℤ pos r.right) ≤ℤ new → ((v : ℤ) → old ≤ℤ v → (at +ℤ pos r.right) ≤ℤ v → new ≤ℤ v)
    → IsEndOf reach lane at old
    → IsEndOf reach (lane + 1) at new
end_more reach lane at old new r er le reached least h = record {
  past = let p = h.past in omega (arith, ints);
  reaches = λ k u lt eu.
      below_or_at (λ k. reach k ≡ Some u → (at +ℤ pos u.right) ≤ℤ new) k lane lt
      (λ lt eu. let d = h.reaches k u lt eu in omega (arith, ints))
      (λ eu. let b : r ≡ u = same_Some r u (sym er ∙ eu) in rw (← b) reached)
      eu;
  least = λ v p q. least v (h.least v p (λ k u lt eu. q k u (omega arith) eu)) (q lane r (omega arith) er);
}

-- columns that are apart with some springs are apart with springs that are no longer
pub apart_down : (n : ℕ) (reach : ℕ → ℕ → Option Reach) (gaps : List ℕ) (weak strong : ℕ → ℕ) (x : List ℤ)
    → ((i : ℕ) → weak i ≤ strong i) → StandApart n reach gaps strong x → StandApart n reach gaps weak x
apart_down n reach gaps weak strong x le h = record {
  begins = h.begins;
  head = h.head;
  lanes = h.lanes;
  steps = h.steps;
  springs = λ i l. let s = h.springs i l in let k = le i in omega (arith, ints);
}

-- the end doesn't fall as the force rises
pub end_down : (n : ℕ) (reach : ℕ → ℕ → Option Reach) (gaps : List ℕ) (spring : ℕ → ℕ → ℕ) (f g : ℕ) (d e : ℤ)
    → 0 < n → ((i : ℕ) → spring f i ≤ spring g i)
    → EndsAt n reach gaps spring f d → EndsAt n reach gaps spring g e → d ≤ℤ e
end_down n reach gaps spring f g d e some le a b =
    let last =
    a.place.least b.x (apart_down n reach gaps (spring f) (spring g) b.x le b.place.apart) (n - 1) (omega arith) in
    a.end.least e (let p = b.end.past in omega (arith, ints))
    (λ k r l er. let q = b.end.reaches k r l er in omega (arith, ints))

-- the springs of a list of columns grow with the force
pub length_rises : {C : Type 0} (len : C → ℕ → ℕ) (cols : List C) (f g : ℕ)
    → ((c : C) → len c f ≤ len c g) → (i : ℕ) → length_at len cols f i ≤ length_at len cols g i
length_rises len cols f g le i = at (slice_get cols i)
  where
    at : (o : _) → unwrap_or (option_map (λ c. len c f) o) 0 ≤ unwrap_or (option_map (λ c. len c g) o) 0
    at None = omega arith
    at (Some c) = le c

-- and are short if those of all columns are
pub lengths_short : {C : Type 0} (len : C → ℕ → ℕ) (cols : List C) (force i : ℕ)
    → ((c : C) → len c force ≤ 1048576) → length_at len cols force i ≤ 1048576
lengths_short len cols force i short = at (slice_get cols i)
  where
    at : (o : _) → unwrap_or (option_map (λ c. len c force) o) 0 ≤ 1048576
    at None = omega arith
    at (Some c) = short c

-- the springs of a list of linear columns are linear
pub lengths_scale : {C : Type 0} (len : C → ℕ → ℕ) (cols : List C) (j : ℕ)
    → ((c : C) (f : ℕ) → len c f ≡ len c 256 * f / 256) → AreLinear j (length_at len cols)
lengths_scale len cols j scales force i less = at (slice_get cols i)
  where
    at : (o : _) → unwrap_or (option_map (λ c. len c force) o) 0
        ≡ unwrap_or (option_map (λ c. len c 256) o) 0 * force / 256
    at None = omega arith
    at (Some c) = scales c force
