-- Columns that are set to the width stay apart, and end at it.
use Rattle.std.proofs.Common.{◌≡◌, sym, subst, inl, inr, ℕ, ◌+◌, ◌-◌, ◌*◌, ◌/◌, ◌<◌, ◌≤◌, ℤ, pos, ◌+ℤ◌, List, Option}
use Rattle.std.proofs.Common.{slice_index_or, arith}
use Rattle.std.proofs.lemmas.Int.{ints}
use Rattle.std.proofs.lemmas.Nat.{le-div}
use Rattle.std.proofs.lemmas.Bool.{cases_lt}
use Rattle.std.proofs.Math.Nat.{div-mul-le_self}
use Rattle.lay_springs.specs.{declared.traits.Reach.Reach, Place.StandApart, Fit.IsSet}

share_rises : (rest i k d : ℕ) → 0 < d → i ≤ k → rest * i / d ≤ rest * k / d
share_rises rest i k d pos_d l = le-div (rest * i / d) (rest * k) d pos_d (grind (arith, div-mul-le_self (rest * i) d))

pub moved_apart : (n : ℕ) (reach : ℕ → ℕ → Option Reach) (gaps : List ℕ) (spring : ℕ → ℕ) (x at : List ℤ) (rest d : ℕ)
    → 0 < d
    → ((k : ℕ) → k < n → slice_index_or at k (pos 0) ≡ (slice_index_or x k (pos 0) +ℤ pos (rest * k / d)))
    → StandApart n reach gaps spring x
    → StandApart n reach gaps spring at
moved_apart n reach gaps spring x at rest d some move h = record {
  begins = λ l. let a = move 0 l in let b = h.begins l in omega (arith, ints);
  head = λ l lane s k e. let a = move 0 l in let b = h.head l lane s k e in omega (arith, ints);
  lanes = λ i j lt l lane r s k er es.
      let a = move i (omega arith) in
      let b = move j l in
      let c = h.lanes i j lt l lane r s k er es in
      let m = share_rises rest i j d some (omega arith) in
      omega (arith, ints);
  steps = λ i l.
      let a = move i (omega arith) in
      let b = move (i + 1) l in
      let c = h.steps i l in
      let m = share_rises rest i (i + 1) d some (omega arith) in
      omega (arith, ints);
  springs = λ i l.
      let a = move i (omega arith) in
      let b = move (i + 1) l in
      let c = h.springs i l in
      let m = share_rises rest i (i + 1) d some (omega arith) in
      omega (arith, ints);
}

pub set_apart : (n : ℕ) (reach : ℕ → ℕ → Option Reach) (gaps : List ℕ) (spring : ℕ → ℕ → ℕ) (width force : ℕ)
    (at : List ℤ)
    → 0 < n → IsSet n reach gaps spring width force at → StandApart n reach gaps (spring force) at
set_apart n reach gaps spring width force at some is = elim (cases_lt 1 n) [
  | inl several ↦
      (let m = is.moved several in
      moved_apart n reach gaps (spring force) is.x at m.1 (n - 1) (omega arith) m.4 is.place.apart)
  | inr alone ↦ subst (StandApart n reach gaps (spring force)) (sym (is.alone (omega arith))) is.place.apart
]
