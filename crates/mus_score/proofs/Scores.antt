-- From what a walk sees to what a good score requires.
use Rattle.std.proofs.Common.{◌≡◌, ◌≢◌, ℕ, zero, suc, ◌+◌, ◌≤◌, ◌<◌, List, [], ◌∷◌, length, arith}
use Rattle.std.proofs.lemmas.List.Elements.{All-from_recursion}
use Rattle.std.proofs.lemmas.List.Kept.{AllPairs-cons}
use Rattle.std.specs.List.{All, AllByRecursion, AllPairs, slice_index}
use Rattle.std.specs.List.Sorted.{IsStrictlyIncreasing}
use Rattle.mus_score.specs.{declared.score.Voice.Voice, Walks.Distinct, Walks.RiseWithin}

pub distinct_pairs : (vs : List Voice) → Distinct vs → AllPairs (λ v w. v.id ≢ w.id) vs
distinct_pairs [] h = λ i j d a b. absurd (omega arith)
distinct_pairs (v ∷ vs) h =
    AllPairs-cons (λ v w. v.id ≢ w.id) v vs (All-from_recursion (λ w. v.id ≢ w.id) vs h.0) (distinct_pairs vs h.1)

within_bars : (low from to : ℕ) (bs : List ℕ)
    → low ≤ from → RiseWithin from to bs → AllByRecursion (λ b. (suc low ≤ b) × (b < to)) bs
within_bars low from to [] l h = tt
within_bars low from to (b ∷ bs) l h = ((omega (arith, h.0), h.1), within_bars low b to bs (omega (arith, h.0)) h.2)

pub all_within_bars : (to : ℕ) (bs : List ℕ) → RiseWithin 0 to bs → All (λ b. (1 ≤ b) × (b < to)) bs
all_within_bars to bs h = All-from_recursion (λ b. (1 ≤ b) × (b < to)) bs (within_bars 0 0 to bs (omega arith) h)

rises_at : (from to : ℕ) (bs : List ℕ)
    → RiseWithin from to bs → (k j : ℕ) → j ≡ suc k → j < length bs → slice_index bs k < slice_index bs j
rises_at from to [] h k j e b = absurd (omega arith)
rises_at from to (b ∷ bs) h k zero e i = absurd (omega arith)
rises_at from to (b ∷ []) h k (suc j) e i = absurd (omega arith)
rises_at from to (b ∷ c ∷ cs) h zero (suc zero) e i = h.2.0
rises_at from to (b ∷ c ∷ cs) h zero (suc (suc j)) e i = absurd (omega arith)
rises_at from to (b ∷ c ∷ cs) h (suc k) (suc j) e i = rises_at b to (c ∷ cs) h.2 k j (omega arith) (omega arith)

pub rising_bars : (to : ℕ) (bs : List ℕ) → RiseWithin 0 to bs → IsStrictlyIncreasing bs
rising_bars to bs h = λ k i. rises_at 0 to bs h k (k + 1) (omega arith) i
