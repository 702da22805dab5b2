-- Columns that continue others need more room, and the others are still placed.
use Rattle.std.proofs.Common.{◌≡◌, ℕ, zero, suc, ◌+◌, ◌-◌, ◌*◌, ◌<◌, ◌≤◌, ℤ, pos, ◌≤ℤ◌, List, [], ◌∷◌, ◌++◌, length}
use Rattle.std.proofs.Common.{Option, option_map, option_and_then, unwrap_or, slice_get, slice_index_or, arith, sym}
use Rattle.std.proofs.Common.{◌∙◌, ap, subst, refl, length-append}
use Rattle.std.proofs.lemmas.Int.{ints}
use Rattle.std.proofs.lemmas.List.{get_or_append_left}
use Rattle.std.proofs.lemmas.Nat.{le-div}
use Rattle.lay_springs.specs.declared.traits.Reach.{Reach}
use Rattle.lay_springs.specs.declared.progress.Progress.{Progress}
use Rattle.lay_springs.specs.Place.{reach_at, length_at, StandApart, IsFirst, HasPlaced}
use Rattle.lay_springs.specs.Fit.{Fits, Passes, CanStandWithin, StandsInAll, LongerFitsLess, most_columns}
use Rattle.lay_springs.proofs.Ends.{apart_down}
use Rattle.lay_springs.proofs.Moved.{moved_apart}

pub stands : (n : ℕ) (reach : ℕ → ℕ → Option Reach) (gaps : List ℕ) (spring : ℕ → ℕ → ℕ) (width force : ℕ)
    → Fits n reach gaps spring width force → CanStandWithin n reach gaps spring width force
stands n reach gaps spring width force h = record {
  y = h.1.x;
  apart = h.1.place.apart;
  past = let a = h.1.end.past in let b = h.2 in omega (arith, ints);
  reaches = λ lane r l e. let a = h.1.end.reaches lane r l e in let b = h.2 in omega (arith, ints);
}

pub cannot_stand : (n : ℕ) (reach : ℕ → ℕ → Option Reach) (gaps : List ℕ) (spring : ℕ → ℕ → ℕ) (width f g : ℕ)
    → 0 < n → ((i : ℕ) → spring f i ≤ spring g i)
    → Passes n reach gaps spring width f → CanStandWithin n reach gaps spring width g → ⊥
cannot_stand n reach gaps spring width f g some le p h =
    let last =
    p.1.place.least h.y (apart_down n reach gaps (spring f) (spring g) h.y le h.apart) (n - 1) (omega arith) in
    let d = p.1.end.least (pos width) (let q = h.past in omega (arith, ints))
    (λ lane r l e. let q = h.reaches lane r l e in omega (arith, ints)) in
    let over = p.2 in omega (arith, ints)

-- abscissas rise
pub rises : (n : ℕ) (reach : ℕ → ℕ → Option Reach) (gaps : List ℕ) (spring : ℕ → ℕ) (y : List ℤ)
    → StandApart n reach gaps spring y → (d i : ℕ) → i + d < n
    → slice_index_or y i (pos 0) ≤ℤ slice_index_or y (i + d) (pos 0)
rises n reach gaps spring y h zero i l = let e : i + 0 ≡ i = omega arith in rw e (omega (arith, ints))
rises n reach gaps spring y h (suc d) i l =
    let ih = rises n reach gaps spring y h d i (omega arith) in
    let s = h.steps (i + d) (omega arith) in
    let e : i + suc d ≡ i + d + 1 = omega arith in
    rw e (omega (arith, ints))

-- neighbors are 100 apart
spaced : (n : ℕ) (reach : ℕ → ℕ → Option Reach) (gaps : List ℕ) (spring : ℕ → ℕ) (y : List ℤ)
    → StandApart n reach gaps spring y → (d : ℕ) → d < n → pos (d * 100) ≤ℤ slice_index_or y d (pos 0)
spaced n reach gaps spring y h zero l = h.begins l
spaced n reach gaps spring y h (suc d) l =
    let ih = spaced n reach gaps spring y h d (omega arith) in
    let s = h.steps d (omega arith) in
    let e : d + 1 ≡ suc d = omega arith in
    let s' = rw e at s in
    omega (arith, ints)

-- the number of columns within a width is bounded
pub stand_few : (n : ℕ) (reach : ℕ → ℕ → Option Reach) (gaps : List ℕ) (spring : ℕ → ℕ → ℕ) (width force : ℕ)
    → 0 < n → CanStandWithin n reach gaps spring width force → n ≤ most_columns width
stand_few n reach gaps spring width force some h =
    let last = spaced n reach gaps (spring force) h.y h.apart (n - 1) (omega arith) in
    let end = h.past in
    let parts = le-div (n - 1) width 100 (omega arith) (omega (arith, ints)) in
    omega (arith, parts)

-- a list that keeps columns apart keeps the first of them apart
pub fewer_apart : (n m : ℕ) (reach reach' : ℕ → ℕ → Option Reach) (gaps : List ℕ) (spring spring' : ℕ → ℕ) (y : List ℤ)
    → n ≤ m
    → ((i lane : ℕ) → i < n → reach' i lane ≡ reach i lane) → ((i : ℕ) → i < n → spring' i ≡ spring i)
    → StandApart m reach' gaps spring' y
    → StandApart n reach gaps spring y
fewer_apart n m reach reach' gaps spring spring' y few same len h = record {
  begins = λ some. h.begins (omega arith);
  head = λ some lane s l e. h.head (omega arith) lane s l (same 0 lane some ∙ e);
  lanes =
      λ i j lt l lane r s k er es.
      h.lanes i j lt (omega arith) lane r s k (same i lane (omega arith) ∙ er) (same j lane l ∙ es);
  steps = λ i l. h.steps i (omega arith);
  springs = λ i l. rw (len i (omega arith)) at (h.springs i (omega arith));
}

pub stand_prefix : (n m : ℕ) (reach reach' : ℕ → ℕ → Option Reach) (gaps : List ℕ) (spring spring' : ℕ → ℕ → ℕ)
    (width force : ℕ)
    → 0 < n → n < m
    → ((i lane : ℕ) → i < n → reach' i lane ≡ reach i lane) → ((i : ℕ) → i < n → spring' force i ≡ spring force i)
    → StandsInAll (reach' (m - 1)) (length gaps)
    → CanStandWithin m reach' gaps spring' width force → CanStandWithin n reach gaps spring width force
stand_prefix n m reach reach' gaps spring spring' width force some longer same len all h = record {
  y = h.y;
  apart = fewer_apart n m reach reach' gaps (spring force) (spring' force) h.y (omega arith) same len h.apart;
  past =
      let up = rises m reach' gaps (spring' force) h.y h.apart (m - n) (n - 1) (omega arith) in
      let e : n - 1 + (m - n) ≡ m - 1 = omega arith in
      let up' = rw e at up in
      let p = h.past in
      omega (arith, ints);
  reaches = λ lane r l e.
      let s = all lane l in
      let c = h.apart.lanes (n - 1) (m - 1) (omega arith) (omega arith) lane r s.0 l
      (same (n - 1) lane (omega arith) ∙ e) s.1 in
      let p = h.past in
      omega (arith, ints);
}

pub get_front : {C : Type 0} → (xs ys : List C) (i : ℕ) → i < length xs → slice_get (xs ++ ys) i ≡ slice_get xs i
get_front [] ys i l = absurd (omega arith)
get_front (x ∷ xs) ys zero l = refl
get_front (x ∷ xs) ys (suc i) l = get_front xs ys i (omega arith)

pub longer_fits_less : {C : Type 0} (reach : C → ℕ → Option Reach) (len : C → ℕ → ℕ) → LongerFitsLess reach len
longer_fits_less reach len short rest gaps width force some more all h =
    let l = length-append short rest in
    stand_prefix (length short) (length (short ++ rest)) (reach_at reach short) (reach_at reach (short ++ rest)) gaps
    (length_at len short) (length_at len (short ++ rest)) width force some (omega arith)
    (λ i lane k. ap (λ o. option_and_then (λ c. reach c lane) o) (get_front short rest i k))
    (λ i k. ap (λ o. unwrap_or (option_map (λ c. len c force) o) 0) (get_front short rest i k))
    all h

-- placed columns are also placed among columns that continue them, and in a longer list of abscissas
pub placed_on : {C : Type 0} (reach : C → ℕ → Option Reach) (len : C → ℕ → ℕ) (short rest : List C) (gaps : List ℕ)
    (p : Progress) (x more fronts : List ℤ)
    → length short ≤ length x → HasPlaced (length short) (reach_at reach short) gaps (length_at len short) p x fronts
    → HasPlaced (length (short ++ rest)) (reach_at reach (short ++ rest)) gaps (length_at len (short ++ rest)) p
    (x ++ more) fronts
placed_on {C} reach len short rest gaps p x more fronts room h = record {
  within = let l = length-append short rest in let w = h.within in omega arith;
  tight = h.tight;
  placed = record {
    apart =
        moved_apart p.count (reach_at reach (short ++ rest)) gaps (length_at len (short ++ rest) p.force) x (x ++ more)
        0 1 (omega arith) (λ k l. rw (stays k l) (omega (arith, ints)))
        (fewer_apart p.count p.count _ _ gaps (length_at len (short ++ rest) p.force) (length_at len short p.force) x
        (omega arith)
        (λ i lane l. sym (same i lane l)) (λ i l. sym (same_length p.force i l)) h.placed.apart);
    first = λ some. rw (stays 0 some) (subst (λ r. IsFirst r (length gaps) (slice_index_or x 0 (pos 0)))
        (sym (ap (λ o lane. option_and_then (λ c. reach c lane) o)
        (get_front short rest 0 (let w = h.within in omega arith))))
        (h.placed.first some));
    least = λ y apart k l. rw (stays k l) (h.placed.least y (short_apart p.force y apart) k l);
    near =
        λ linear g drop y e apart k l.
        rw (stays k l) (h.placed.near
        (λ force i less. rw (same_length force i less, same_length 256 i less) at (linear force i less)) g drop y e
        (short_apart g y apart) k l);
    small = λ k l. rw (stays k l) (h.placed.small k l);
  };
  front = λ some.
      let f = h.front some in
      record {
        covers = λ lane k r lt l e. rw (stays k l) (f.covers lane k r lt l (sym (same k lane l) ∙ e));
        stands =
            λ lane lt past.
            let k = f.stands lane lt past in (k.0, k.1, k.2, same k.0 lane k.2 ∙ k.3, rw (stays k.0 k.2) k.4);
        apart = f.apart;
        small = f.small;
      };
}
  where
    same : (i lane : ℕ) → i < p.count → reach_at reach (short ++ rest) i lane ≡ reach_at reach short i lane
    same i lane l =
        ap (λ o. option_and_then (λ c. reach c lane) o) (get_front short rest i (let w = h.within in omega arith))

    same_length : (force i : ℕ) → i < p.count → length_at len (short ++ rest) force i ≡ length_at len short force i
    same_length force i l =
        ap (λ o. unwrap_or (option_map (λ c. len c force) o) 0)
        (get_front short rest i (let w = h.within in omega arith))

    short_apart : (force : ℕ) (y : List ℤ)
        → StandApart p.count (reach_at reach (short ++ rest)) gaps (length_at len (short ++ rest) force) y
        → StandApart p.count (reach_at reach short) gaps (length_at len short force) y
    short_apart force y apart =
        fewer_apart p.count p.count _ _ gaps (length_at len short force) (length_at len (short ++ rest) force) y
        (omega arith) same (same_length force) apart

    stays : (k : ℕ) → k < p.count → slice_index_or (x ++ more) k (pos 0) ≡ slice_index_or x k (pos 0)
    stays k l = get_or_append_left x more (pos 0) k (let w = h.within in omega arith)
