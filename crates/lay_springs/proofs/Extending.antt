-- One more column is placed.
use Rattle.std.proofs.Common.{◌≡◌, ℕ, ◌+◌, ◌*◌, ◌<◌, ◌≤◌, ◌≢◌, ℤ, pos, ◌+ℤ◌, ◌≤ℤ◌, List, length, take, Option, None}
use Rattle.std.proofs.Common.{Some, IfSome, option_and_then, slice_get, slice_index_or, slice_set, ap, sym, arith}
use Rattle.std.proofs.Common.{subst, refl, get_or-set_same, get_or-set_other}
use Rattle.std.proofs.lemmas.Int.{ints}
use Rattle.std.proofs.lemmas.List.{get_or-take, length-take-le}
use Rattle.lay_springs.specs.declared.traits.Reach.{Reach}
use Rattle.lay_springs.specs.Place.{reach_at, length_at, AreLinear, IsClear, IsInside, StandApart, IsPlace}
use Rattle.lay_springs.specs.Place.{IsPlacedTo, slack}
use Rattle.lay_springs.proofs.Clear.{below_or_at}
use Rattle.lay_springs.proofs.Longer.{fewer_apart}
use Rattle.lay_springs.proofs.Moved.{moved_apart}
use Rattle.lay_springs.proofs.Near.{slack_up}

-- the abscissa of a column
abbrev at : List ℤ → ℕ → ℤ
at x k = slice_index_or x k (pos 0)

module _ (reach : ℕ → ℕ → Option Reach) (gaps : List ℕ) (spring : ℕ → ℕ → ℕ) (force : ℕ) where
  pub placed_first : (x : List ℤ) (v : ℤ) → 0 < length x → pos 0 ≤ℤ v → IsInside (reach 0) (length gaps) v
      → ((w : ℤ) → pos 0 ≤ℤ w → IsInside (reach 0) (length gaps) w → v ≤ℤ w)
      → v ≤ℤ pos 1048576
      → IsPlacedTo 1 reach gaps spring force 0 0 (slice_set x 0 v)
  placed_first x v room begins inside least small = record {
    apart = record {
      begins = λ _. rw here begins;
      head = λ _. rw here inside;
      lanes = λ i j lt le. absurd (omega arith);
      steps = λ i l. absurd (omega arith);
      springs = λ i l. absurd (omega arith);
    };
    first = λ _. rw here (record { begins = begins; inside = inside; least = least });
    least =
        λ y h k l.
        let z : 0 ≡ k = omega arith in let first = least (at y 0) (h.begins (omega arith)) (h.head (omega arith)) in
        subst (λ k. at (slice_set x 0 v) k ≤ℤ at y k) z (rw here first);
    near =
        λ _ g drop y e h k l.
        let z : 0 ≡ k = omega arith in let first = least (at y 0) (h.begins (omega arith)) (h.head (omega arith)) in
        subst (λ k. at (slice_set x 0 v) k ≤ℤ (at y k +ℤ pos (slack 0 0 drop))) z (rw here (omega (arith, ints)));
    small = λ k l. let z : 0 ≡ k = omega arith in
        subst (λ k. (pos 0 ≤ℤ at (slice_set x 0 v) k) × (at (slice_set x 0 v) k ≤ℤ pos (1048576 + 3145728 * k))) z
        (rw here (begins, small));
  }
    where
      here : at (slice_set x 0 v) 0 ≡ v
      here = get_or-set_same x 0 v (pos 0) room

  -- column j is placed at v
  pub placed_more : (natural count natural' count' : ℕ) (x : List ℤ) (j : ℕ) (v : ℤ)
      → 0 < j → j < length x → IsPlacedTo j reach gaps spring force natural count x
      → natural ≤ natural' → count ≤ count' → ((i : ℕ) → i + 1 ≡ j → (at x i +ℤ pos 100) ≤ℤ v)
      → ((i : ℕ) → i + 1 ≡ j → (at x i +ℤ pos (spring force i)) ≤ℤ v)
      → ((i : ℕ) → i < j → IsClear (reach i) (reach j) gaps (length gaps) (at x i) v)
      → ((y : List ℤ) → StandApart (j + 1) reach gaps (spring force) y → v ≤ℤ at y j)
      → (AreLinear (j + 1) spring → (g drop : ℕ) (y : List ℤ)
      → g + drop ≡ force → StandApart (j + 1) reach gaps (spring g) y
      → v ≤ℤ (at y j +ℤ pos (slack natural' count' drop)))
      → (pos 0 ≤ℤ v) × (v ≤ℤ pos (1048576 + 3145728 * j))
      → IsPlacedTo (j + 1) reach gaps spring force natural' count' (slice_set x j v)
  placed_more natural count natural' count' x j v pos_j room h more many step spr clear least near small = record {
    apart = record {
      begins = λ _. rw (same 0 pos_j) (h.apart.begins pos_j);
      head = λ _. rw (same 0 pos_j) (h.apart.head pos_j);
      lanes =
          λ i k lt le.
          below_or_at (λ k. i < k → IsClear (reach i) (reach k) gaps (length gaps) (at x' i) (at x' k)) k j le
          (λ l lt. rw (same i (omega arith), same k l) (h.apart.lanes i k lt l))
          (λ lt. rw (same i lt, here) (clear i lt)) lt;
      steps = λ i l. below_or_at (λ k. k ≡ i + 1 → (at x' i +ℤ pos 100) ≤ℤ at x' k) (i + 1) j l
          (λ l e. rw (same i (omega arith), same (i + 1) l) (h.apart.steps i l))
          (λ e. rw (same i (omega arith), here) (step i (sym e))) refl;
      springs = λ i l. below_or_at (λ k. k ≡ i + 1 → (at x' i +ℤ pos (spring force i)) ≤ℤ at x' k) (i + 1) j l
          (λ l e. rw (same i (omega arith), same (i + 1) l) (h.apart.springs i l))
          (λ e. rw (same i (omega arith), here) (spr i (sym e))) refl;
    };
    first = λ _. rw (same 0 pos_j) (h.first pos_j);
    least = λ y a k l. below_or_at (λ k. at x' k ≤ℤ at y k) k j l
        (λ l. rw (same k l) (h.least y (first_apart force y a) k l))
        (rw here (least y a));
    near =
        λ linear g drop y e a k l. below_or_at (λ k. at x' k ≤ℤ (at y k +ℤ pos (slack natural' count' drop))) k j l
        (λ l.
        let old = h.near (λ force i less. linear force i (omega arith)) g drop y e (first_apart g y a) k l in
        let up = slack_up natural count natural' count' drop more many in
        rw (same k l) (omega (arith, ints)))
        (rw here (near linear g drop y e a));
    small = λ k l. below_or_at (λ k. (pos 0 ≤ℤ at x' k) × (at x' k ≤ℤ pos (1048576 + 3145728 * k))) k j l
        (λ l. rw (same k l) (h.small k l))
        (rw here small);
  }
    where
      x' : List ℤ
      x' = slice_set x j v

      same : (k : ℕ) → k < j → at (slice_set x j v) k ≡ at x k
      same k l = let ne : k ≢ j = omega arith in get_or-set_other x j k v (pos 0) ne

      here : at (slice_set x j v) j ≡ v
      here = get_or-set_same x j v (pos 0) room

      first_apart : (force : ℕ) (y : List ℤ)
          → StandApart (j + 1) reach gaps (spring force) y → StandApart j reach gaps (spring force) y
      first_apart force y a =
          fewer_apart j (j + 1) reach reach gaps (spring force) (spring force) y (omega arith) (λ i lane l. refl)
          (λ i l. refl) a

-- all are placed
pub place_of : (n : ℕ) (reach : ℕ → ℕ → Option Reach) (gaps : List ℕ) (spring : ℕ → ℕ → ℕ) (force natural count : ℕ)
    (x : List ℤ)
    → n ≤ length x
    → IsPlacedTo n reach gaps spring force natural count x → IsPlace n reach gaps (spring force) (take n x)
place_of n reach gaps spring force natural count x room h = record {
  count = length-take-le n x room;
  apart =
      moved_apart n reach gaps (spring force) x (take n x) 0 1 (omega arith)
      (λ k l. rw (get_or-take n x k (pos 0) l) (omega (arith, ints))) h.apart;
  least = λ y a k l. rw (get_or-take n x k (pos 0) l) (h.least y a k l);
}

-- the item at a column that was read
pub reach_is : {C : Type 0} (reach : C → ℕ → Option Reach) (cols : List C) (i : ℕ) (c : C)
    → slice_get cols i ≡ Some c → reach_at reach cols i ≡ reach c
reach_is reach cols i c e = ap (λ o lane. option_and_then (λ c. reach c lane) o) e

pub length_is : {C : Type 0} (len : C → ℕ → ℕ) (cols : List C) (force i : ℕ) (c : C)
    → slice_get cols i ≡ Some c → length_at len cols force i ≡ len c force
length_is len cols force i c e = rw e refl

-- what holds of the reaches of each column holds of those of a list
pub near_at : {C : Type 0} (reach : C → ℕ → Option Reach) (cols : List C) (P : Reach → Type 0) (lane : ℕ)
    → ((c : C) → IfSome (reach c lane) P) → (k : ℕ) → IfSome (reach_at reach cols k lane) P
near_at reach cols P lane h k = at_col (slice_get cols k)
  where
    at_col : (o : _) → IfSome (option_and_then (λ c. reach c lane) o) P
    at_col None = tt
    at_col (Some c) = h c
