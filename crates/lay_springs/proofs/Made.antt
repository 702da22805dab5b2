-- Any columns have a least list of abscissas, and it ends within the width or passes it.
use Rattle.std.specs.Int.{int_max}
use Rattle.std.specs.Prelude.{◌<ℤ◌}
use Rattle.std.proofs.Common.{◌≡◌, ℕ, zero, suc, ◌+◌, ◌-◌, ◌*◌, ◌<◌, ◌≤◌, ◌⊎◌, inl, inr, subst, ℤ, pos, negsuc, ◌+ℤ◌}
use Rattle.std.proofs.Common.{◌≤ℤ◌, List, length, take, replicate, Option, None, Some, IfSome, slice_index}
use Rattle.std.proofs.Common.{slice_index_or, slice_set, sym, ap, ◌∙◌, arith, refl}
use Rattle.std.proofs.lemmas.Int.{ints, clamps}
use Rattle.std.proofs.lemmas.Bool.{cases_lt}
use Rattle.std.proofs.lemmas.List.{length-set, length-replicate}
use Rattle.lay_springs.specs.declared.traits.Reach.{Reach}
use Rattle.lay_springs.specs.Place.{IsPlacedTo, IsPlace, StandApart, reach_at, length_at}
use Rattle.lay_springs.specs.Fit.{IsEndOf, EndsAt, Fits, Passes, CanStandWithin}
use Rattle.lay_springs.proofs.Clear.{below_or_at}
use Rattle.lay_springs.proofs.Ends.{lengths_short}
use Rattle.lay_springs.proofs.Longer.{fewer_apart, stands}
use Rattle.lay_springs.proofs.Extending.{placed_first, placed_more, place_of, near_at}

-- the least number that is at least `from` and at least all that is required
pub record Top (from : ℤ) (Asked : ℤ → Type 0) : Type 0 where
  pub v : ℤ
  pub past : from ≤ℤ v
  pub all : (w : ℤ) → Asked w → w ≤ℤ v
  pub least : (u : ℤ) → from ≤ℤ u → ((w : ℤ) → Asked w → w ≤ℤ u) → v ≤ℤ u

-- required by one of the first m
pub record AskedBelow (m : ℕ) (f : ℕ → ℤ → Type 0) (w : ℤ) : Type 0 where
  pub by : ℕ
  pub within : by < m
  pub asks : f by w

-- if each of the first m has such a number above any `from`, all of them together have one
pub top_of : (f : ℕ → ℤ → Type 0)
    → ((i : ℕ) (from : ℤ) → Top from (f i)) → (m : ℕ) (from : ℤ) → Top from (AskedBelow m f)
top_of f one zero from = record {
  v = from;
  past = omega (arith, ints);
  all = λ w a. absurd (let l = a.within in omega arith);
  least = λ u p q. p;
}
top_of f one (suc m) from =
    let r = top_of f one m from in let l = one m r.v in
    record {
      v = l.v;
      past = let a = r.past in let b = l.past in omega (arith, ints);
      all = λ w a. below_or_at (λ k. f k w → w ≤ℤ l.v) a.by m (let t = a.within in omega arith)
          (λ t h. let p = r.all w (record { by = a.by; within = t; asks = h }) in let q = l.past in omega (arith, ints))
          (λ h. l.all w h) a.asks;
      least =
          λ u p q.
          l.least u
          (r.least u p (λ w a. q w (record { by = a.by; within = let t = a.within in omega arith; asks = a.asks })))
          (λ w h. q w (record { by = m; within = omega arith; asks = h }));
    }

-- the requirement of a reach, if a column has one
abbrev pub AskedAt : Option Reach → (Reach → ℤ) → ℤ → Type 0
AskedAt o f w = (r : Reach) × (o ≡ Some r) × (w ≡ f r)

pub top_at : (o : Option Reach) (f : Reach → ℤ) (from : ℤ) → Top from (AskedAt o f)
top_at None f from =
    record { v = from; past = omega (arith, ints); all = λ w a. absurd (let e = a.1 in cc); least = λ u p q. p }
top_at (Some r) f from = record {
  v = int_max from (f r);
  past = omega (arith, ints, clamps);
  all =
      λ w a.
      let same : r ≡ a.0 = (let e = a.1 in cc) in
      let is : w ≡ f r = a.2 ∙ ap f (sym same) in
      rw is (omega (arith, ints, clamps));
  least = λ u p q. let t = q (f r) (r, refl, refl) in omega (arith, ints, clamps);
}

-- the requirement of two reaches
abbrev pub AskedBy : Option Reach → Option Reach → (Reach → Reach → ℤ) → ℤ → Type 0
AskedBy o p f w = (r : Reach) × (o ≡ Some r) × AskedAt p (f r) w

top_by : (o p : Option Reach) (f : Reach → Reach → ℤ) (from : ℤ) → Top from (AskedBy o p f)
top_by None p f from =
    record { v = from; past = omega (arith, ints); all = λ w a. absurd (let e = a.1 in cc); least = λ u p q. p }
top_by (Some r) p f from =
    let t = top_at p (f r) from in
    record {
      v = t.v;
      past = t.past;
      all = λ w a. let same : r ≡ a.0 = (let e = a.1 in cc) in t.all w (subst (λ x. AskedAt p (f x) w) (sym same) a.2);
      least = λ u l q. t.least u l (λ w a. q w (r, refl, a));
    }

abbrev at : List ℤ → ℕ → ℤ
at x k = slice_index_or x k (pos 0)

module _ (n : ℕ) (reach : ℕ → ℕ → Option Reach) (gaps : List ℕ) (spring : ℕ → ℕ)
    (near : (k lane : ℕ) → lane < length gaps → IfSome (reach k lane) (λ r. (r.left ≤ 1048576) × (r.right ≤ 1048576)))
    (narrow : (lane : ℕ) → lane < length gaps → slice_index gaps lane ≤ 1048576)
    (short : (i : ℕ) → spring i ≤ 1048576) where
  -- the first j + 1 columns are placed
  abbrev Placed : ℕ → Type 0
  Placed j = (x : List ℤ) × (length x ≡ n) × IsPlacedTo (j + 1) reach gaps (λ _. spring) 0 0 0 x

  first : 0 < n → Placed 0
  first some =
      let lanes = length gaps in
      let t = top_of (λ lane w. AskedAt (reach 0 lane) (λ s. pos s.left) w)
      (λ lane from. top_at (reach 0 lane) (λ s. pos s.left) from) lanes (pos 0) in
      let zeros = replicate n (pos 0) in
      let count : length (replicate n (pos 0)) ≡ n = length-replicate n (pos 0) in (
        slice_set zeros 0 t.v,
        length-set zeros 0 t.v ∙ count,
        placed_first reach gaps (λ _. spring) 0 zeros t.v (omega (arith, some, count)) t.past
            (λ lane s l e. t.all (pos s.left) (record { by = lane; within = l; asks = (s, e, refl) }))
            (λ w b h. t.least w b (λ z a. rw a.asks.2 (h a.by a.asks.0 a.within a.asks.1)))
            (t.least (pos 1048576) (omega (arith, ints)) (λ z a.
            let k = rw a.asks.1 at (near 0 a.by a.within) in let m = k.0 in rw a.asks.2 (omega (arith, ints)))),
      )

  abbrev Asks : List ℤ → ℕ → ℕ → ℕ → ℤ → Type 0
  Asks x j i lane w =
      AskedBy (reach i lane) (reach j lane) (λ r s. at x i +ℤ pos (r.right + slice_index gaps lane + s.left)) w

  next : (j : ℕ) → j + 1 < n → Placed j → Placed (j + 1)
  next j l (x, count, placed) =
      let lanes = length gaps in let from : ℤ = int_max (at x j +ℤ pos 100) (at x j +ℤ pos (spring j)) in
      let over = λ (i : ℕ).
      top_of (Asks x (j + 1) i)
      (λ lane from.
      top_by (reach i lane) (reach (j + 1) lane) (λ r s. at x i +ℤ pos (r.right + slice_index gaps lane + s.left)) from)
      lanes in
      let t = top_of (λ i. AskedBelow lanes (Asks x (j + 1) i)) over (j + 1) from in
      let past = t.past in
      let last = placed.small j (omega arith) in
      let low = last.0 in
      let high = last.1 in
      let len = short j in
      let least : (y : List ℤ) → StandApart (j + 1 + 1) reach gaps spring y → t.v ≤ℤ at y (j + 1) =
      λ y a.
      let before = fewer_apart (j + 1) (j + 1 + 1) reach reach gaps spring spring y (omega arith) (λ i lane l. refl)
      (λ i l. refl) a in
      let below = placed.least y before j (omega arith) in
      let step = a.steps j (omega arith) in
      let spr = a.springs j (omega arith) in
      t.least (at y (j + 1)) (omega (arith, ints, clamps)) (λ w h.
      let b = placed.least y before h.by h.within in
      let c = a.lanes h.by (j + 1) h.within (omega arith) h.asks.by h.asks.asks.0 h.asks.asks.2.0 h.asks.within
      h.asks.asks.1 h.asks.asks.2.1 in
      rw h.asks.asks.2.2 (omega (arith, ints))) in (
        slice_set x (j + 1) t.v,
        length-set x (j + 1) t.v ∙ count,
        placed_more reach gaps (λ _. spring) 0 0 0 0 0 x (j + 1) t.v (omega arith) (omega (arith, l, count)) placed
            (omega arith) (omega arith)
            (λ k e. let z : j ≡ k = omega arith in rw (← z) (omega (arith, ints, clamps)))
            (λ k e. let z : j ≡ k = omega arith in rw (← z) (omega (arith, ints, clamps)))
            (λ k lt lane r s le er es.
            t.all _ (record {
              by = k;
              within = lt;
              asks = record { by = lane; within = le; asks = (r, er, (s, es, refl)) };
            }))
            least (λ _ g drop y e a. let less = least y a in omega (arith, ints, less)) (
              omega (arith, ints, clamps),
              t.least (pos (1048576 + 3145728 * (j + 1))) (omega (arith, ints, clamps)) (λ w h.
                  let up = (placed.small h.by h.within).1 in
                  let before = h.within in
                  let right = (rw h.asks.asks.1 at (near h.by h.asks.by h.asks.within)).1 in
                  let left = (rw h.asks.asks.2.1 at (near (j + 1) h.asks.by h.asks.within)).0 in
                  let gap = narrow h.asks.by h.asks.within in
                  rw h.asks.asks.2.2 (omega (arith, ints))),
            ),
      )

  placed_to : (j : ℕ) → j < n → Placed j
  placed_to zero l = first l
  placed_to (suc j) l =
      let e : j + 1 ≡ suc j = omega arith in subst Placed e (next j (omega arith) (placed_to j (omega arith)))

  pub has_place : 0 < n → (x : List ℤ) × IsPlace n reach gaps spring x
  has_place some =
      let p = placed_to (n - 1) (omega arith) in let e : n - 1 + 1 ≡ n = omega arith in let count = p.1 in (
        take n p.0,
        place_of n reach gaps (λ _. spring) 0 0 0 p.0 (omega (arith, count))
            (subst (λ j. IsPlacedTo j reach gaps (λ _. spring) 0 0 0 p.0) e p.2),
      )

has_end : (reach : ℕ → Option Reach) (lanes : ℕ) (at : ℤ) → (e : ℤ) × IsEndOf reach lanes at e
has_end reach lanes at =
    let t = top_of (λ lane w. AskedAt (reach lane) (λ r. at +ℤ pos r.right) w)
    (λ lane from. top_at (reach lane) (λ r. at +ℤ pos r.right) from) lanes at in (
      t.v,
      record {
        past = t.past;
        reaches = λ lane r l e. t.all _ (record { by = lane; within = l; asks = (r, e, refl) });
        least = λ v p q. t.least v p (λ w a. rw a.asks.2 (q a.by a.asks.0 a.within a.asks.1));
      },
    )

within_or_past : (e : ℤ) (width : ℕ) → (e ≤ℤ pos width) ⊎ (pos width <ℤ e)
within_or_past (pos k) width =
    elim (cases_lt width k) [ inl lt ↦ inr (omega (arith, ints, lt)) | inr ge ↦ inl (omega (arith, ints, ge)) ]
within_or_past (negsuc k) width = inl (omega (arith, ints))

pub fits_or_passes : (n : ℕ) (reach : ℕ → ℕ → Option Reach) (gaps : List ℕ) (spring : ℕ → ℕ → ℕ) (width force : ℕ)
    → 0 < n
    → ((k lane : ℕ) → lane < length gaps → IfSome (reach k lane) (λ r. (r.left ≤ 1048576) × (r.right ≤ 1048576)))
    → ((lane : ℕ) → lane < length gaps → slice_index gaps lane ≤ 1048576) → ((i : ℕ) → spring force i ≤ 1048576)
    → Fits n reach gaps spring width force ⊎ Passes n reach gaps spring width force
fits_or_passes n reach gaps spring width force some near narrow short =
    let p = has_place n reach gaps (spring force) near narrow short some in
    let e = has_end (reach (n - 1)) (length gaps) (slice_index_or p.0 (n - 1) (pos 0)) in
    let ends : EndsAt n reach gaps spring force e.0 = record { x = p.0; place = p.1; end = e.1 } in
    elim (within_or_past e.0 width) [ inl l ↦ inl (e.0, ends, l) | inr g ↦ inr (e.0, ends, g) ]

-- columns that can't even be within the width at force 0 pass it there
pub passes_at_none : {C : Type 0} (reach : C → ℕ → Option Reach) (len : C → ℕ → ℕ) (cols : List C) (gaps : List ℕ)
    (width : ℕ)
    → 0 < length cols
    → ((c : C) (lane : ℕ) → lane < length gaps → IfSome (reach c lane) (λ r. (r.left ≤ 1048576) × (r.right ≤ 1048576)))
    → ((lane : ℕ) → lane < length gaps → slice_index gaps lane ≤ 1048576) → ((c : C) → len c 0 ≤ 1048576)
    → (CanStandWithin (length cols) (reach_at reach cols) gaps (length_at len cols) width 0 → ⊥)
    → Passes (length cols) (reach_at reach cols) gaps (length_at len cols) width 0
passes_at_none reach len cols gaps width some near narrow short never =
    elim (fits_or_passes (length cols) (reach_at reach cols) gaps (length_at len cols) width 0 some
    (λ k lane l. near_at reach cols _ lane (λ c. near c lane l) k) narrow (λ i. lengths_short len cols 0 i short)) [
      | inl fits ↦ absurd (never (stands _ _ _ _ _ _ fits))
      | inr passes ↦ passes
    ]
