-- The frontiers of the lanes.
use Rattle.std.proofs.Common.{get_or-set_same, get_or-set_other, slice_set, ◌≡◌, ℕ, ◌+◌, ◌*◌, ◌^◌, ◌<◌, ◌≤◌, inl, inr}
use Rattle.std.proofs.Common.{ℤ, pos, negsuc, ◌+ℤ◌, ◌≤ℤ◌, List, length, Option, None, Some, IfSome, slice_index}
use Rattle.std.proofs.Common.{slice_index_or, sym, ap, ◌∙◌, arith, subst, refl}
use Rattle.std.proofs.lemmas.Bool.{cases_eq, eq-eqb, ne_eqb}
use Rattle.std.proofs.lemmas.Int.{ints}
use Rattle.std.proofs.lemmas.Option.{same_Some, none-some, slice_get_past}
use Rattle.lay_springs.specs.declared.traits.Reach.{Reach}
use Rattle.lay_springs.specs.declared.traits.LaneReach.{LaneReach}
use Rattle.lay_springs.specs.declared.traits.ReachView.{ReachView}
use Rattle.lay_springs.specs.ReachView.{IsLone, TellsReach, reach_in}
use Rattle.lay_springs.specs.Place.{IsClear, StandApart, IsPlacedTo, AreFrontiers, IsPast, IsSomewhere, Advances}
use Rattle.lay_springs.proofs.Clear.{below_or_at}

abbrev at : List ℤ → ℕ → ℤ
at x k = slice_index_or x k (pos 0)

pub past_more : (reach : ℕ → Option Reach) (gaps : List ℕ) (lane : ℕ) (front : List ℤ) (old new : ℤ) (s : Reach)
    → reach lane ≡ Some s
    → old ≤ℤ new
    → (pos 0 ≤ℤ at front lane → (at front lane +ℤ pos (slice_index gaps lane + s.left)) ≤ℤ new)
    → IsPast reach gaps lane front old
    → IsPast reach gaps (lane + 1) front new
past_more reach gaps lane front old new s es l m h k u lt eu =
    below_or_at (λ k. reach k ≡ Some u → pos 0 ≤ℤ at front k → (at front k +ℤ pos (slice_index gaps k + u.left)) ≤ℤ new)
    k lane lt
    (λ lt eu p. let d = h k u lt eu p in omega (arith, ints))
    (λ eu p. let b : s ≡ u = same_Some s u (sym es ∙ eu) in rw (← b) (m p))
    eu

module _ (reach : ℕ → ℕ → Option Reach) (gaps : List ℕ) (spring : ℕ → ℕ → ℕ) (force natural count j : ℕ)
    (x front : List ℤ)
    (placed : IsPlacedTo j reach gaps spring force natural count x)
    (fronts : AreFrontiers j reach (length gaps) x front) where
  pub front_clear : (v : ℤ)
      → IsPast (reach j) gaps (length gaps) front v → (i : ℕ) → i < j
      → IsClear (reach i) (reach j) gaps (length gaps) (at x i) v
  front_clear v past i l lane r s lt er es =
      let c = fronts.covers lane i r lt l er in
      let low = (placed.small i l).0 in
      let p = past lane s lt es (omega (arith, ints)) in
      omega (arith, ints)

  -- past a column that is in a list at most this far below, at another force too
  pub front_below : (weak : ℕ → ℕ) (y : List ℤ) (d : ℕ) (w : ℤ) → StandApart (j + 1) reach gaps weak y
      → ((k : ℕ) → k < j → at x k ≤ℤ (at y k +ℤ pos d)) → (at y j +ℤ pos d) ≤ℤ w
      → IsPast (reach j) gaps (length gaps) front w
  front_below weak y d w h near up lane s lt es some =
      let k = fronts.stands lane lt some in
      let e = k.4 in
      let c = h.lanes k.0 j k.2 (omega arith) lane k.1 s lt k.3 es in
      let b = near k.0 k.2 in
      omega (arith, ints)

  pub past_bound : ((k lane : ℕ)
      → lane < length gaps → IfSome (reach k lane) (λ r. (r.left ≤ 1048576) × (r.right ≤ 1048576)))
      → ((lane : ℕ) → lane < length gaps → slice_index gaps lane ≤ 1048576)
      → IsPast (reach j) gaps (length gaps) front (pos (1048576 + 3145728 * j))
  past_bound near narrow lane s lt es some =
      let k = fronts.stands lane lt some in
      let l = k.2 in
      let e = k.4 in
      let high = (placed.small k.0 k.2).1 in
      let right = (rw k.3 at (near k.0 lane lt)).1 in
      let left = (rw es at (near j lane lt)).0 in let gap = narrow lane lt in omega (arith, ints)

module _ (reach : ℕ → ℕ → Option Reach) (lanes j : ℕ) (v : ℤ) where
  -- one lane, with column j at v
  one_covers : (o : Option Reach) (old new : ℤ) → Advances o v old new → old ≤ℤ new
  one_covers None old new h = omega (arith, ints)
  one_covers (Some r) old new h = h.0

  one_small : (o : Option Reach) (old new : ℤ)
      → IfSome o (λ r. (r.left ≤ 1048576) × (r.right ≤ 1048576)) → v ≤ℤ pos (2 ^ 60) → old ≤ℤ pos (2 ^ 61)
      → Advances o v old new
      → new ≤ℤ pos (2 ^ 61)
  one_small None old new near l s h = omega (arith, ints)
  one_small (Some r) old new near l s h =
      let a = near.1 in elim h.2 [ inl e ↦ omega (arith, ints) | inr e ↦ omega (arith, ints) ]

  one_apart : (o : Option Reach) (old new : ℤ) → pos 0 ≤ℤ v → IsSomewhere old → Advances o v old new → IsSomewhere new
  one_apart None old new begins apart h = subst IsSomewhere (sym h) apart
  one_apart (Some r) old new begins apart h = let reached = h.1 in inl (omega (arith, ints))

  here_covers : (o : Option Reach) (r : Reach) (old new : ℤ)
      → o ≡ Some r → Advances o v old new → (v +ℤ pos r.right) ≤ℤ new
  here_covers None r old new e h = absurd (none-some r e)
  here_covers (Some s) r old new e h = let b : s ≡ r = same_Some s r e in rw (← b) h.1

  module _ (x x' front front' : List ℤ) (same : (k : ℕ) → k < j → at x' k ≡ at x k) (here : at x' j ≡ v)
      (low : pos 0 ≤ℤ v) (high : v ≤ℤ pos (2 ^ 60))
      (near : (lane : ℕ) → lane < lanes → IfSome (reach j lane) (λ r. (r.left ≤ 1048576) × (r.right ≤ 1048576)))
      (advances : (lane : ℕ) → lane < lanes → Advances (reach j lane) v (at front lane) (at front' lane))
      (fronts : AreFrontiers j reach lanes x front) where
    pub front_more : AreFrontiers (j + 1) reach lanes x' front'
    front_more = record {
      covers =
          λ lane k r lt l e. below_or_at (λ k. reach k lane ≡ Some r → (at x' k +ℤ pos r.right) ≤ℤ at front' lane) k j l
          (λ l e. let c = fronts.covers lane k r lt l e in
          let s = same k l in
          let u = one_covers (reach j lane) _ _ (advances lane lt) in
          omega (arith, ints))
          (λ e. rw here (here_covers (reach j lane) r _ _ e (advances lane lt)))
          e;
      stands = λ lane lt some. stood lane lt (reach j lane) refl (advances lane lt) some;
      apart = λ lane lt. one_apart (reach j lane) _ _ low (fronts.apart lane lt) (advances lane lt);
      small = λ lane lt. one_small (reach j lane) _ _ (near lane lt) high (fronts.small lane lt) (advances lane lt);
    }
      where
        old : (lane : ℕ) → lane < lanes → at front' lane ≡ at front lane → pos 0 ≤ℤ at front' lane
            → (k : ℕ)
            × (r : Reach)
            × (k < j + 1)
            × (reach k lane ≡ Some r)
            × (at front' lane ≡ (at x' k +ℤ pos r.right))
        old lane lt e some =
            let k = fronts.stands lane lt (rw e at some) in
            (k.0, k.1, (let l = k.2 in omega arith), k.3, rw (same k.0 k.2) (e ∙ k.4))

        stood : (lane : ℕ) → lane < lanes → (o : Option Reach) → reach j lane ≡ o
            → Advances o v (at front lane) (at front' lane)
            → pos 0 ≤ℤ at front' lane
            → (k : ℕ)
            × (r : Reach)
            × (k < j + 1)
            × (reach k lane ≡ Some r)
            × (at front' lane ≡ (at x' k +ℤ pos r.right))
        stood lane lt None e h some = old lane lt h some
        stood lane lt (Some r) e h some =
            elim h.2 [ inl q ↦ old lane lt q some | inr q ↦ (j, r, omega arith, e, rw here q) ]

-- a column past the frontiers is clear of the columns before it
pub each_after : (reach : ℕ → Option Reach) (gaps : List ℕ) (lanes : ℕ) (front : List ℤ) (v : ℤ)
    → pos 0 ≤ℤ v → IsPast reach gaps lanes front v
    → (lane : ℕ) → lane < lanes → IfSome (reach lane) (λ r. at front lane ≤ℤ v)
each_after reach gaps lanes front v begins past lane l = one (reach lane) refl
  where
    following : (end : ℤ) (room : ℕ) → (pos 0 ≤ℤ end → (end +ℤ pos room) ≤ℤ v) → end ≤ℤ v
    following (pos k) room past = let p = past (omega (arith, ints)) in omega (arith, ints)
    following (negsuc k) room past = omega (arith, ints)

    one : (o : Option Reach) → reach lane ≡ o → IfSome o (λ r. at front lane ≤ℤ v)
    one None e = tt
    one (Some r) e = following (at front lane) (slice_index gaps lane + r.left) (past lane r l e)

-- a column is in no lane past its row
pub none_past : (row : List (Option Reach)) (lane : ℕ) → length row ≤ lane → reach_in row lane ≡ None
unfolding reach_in
none_past row lane l = rw (slice_get_past row lane l) refl

pub front_start : (reach : ℕ → ℕ → Option Reach) (lanes : ℕ) (x front : List ℤ)
    → ((lane : ℕ) → lane < lanes → at front lane ≡ negsuc 1099511627775) → AreFrontiers 0 reach lanes x front
front_start reach lanes x front h = record {
  covers = λ lane k r lt l e. absurd (omega arith);
  stands = λ lane lt some. let e = h lane lt in absurd (omega (arith, ints));
  apart = λ lane lt. let e = h lane lt in inr (omega (arith, ints));
  small = λ lane lt. let e = h lane lt in omega (arith, ints);
}

-- a view of one lane says that the column is in that lane alone
pub lone_known : (stand : LaneReach) (reach : ℕ → Option Reach)
    → TellsReach (ReachView.OneLane stand) reach → stand.lane < 4294967296 → IsLone reach stand
lone_known stand reach known few = record {
  here = let same = eq-eqb stand.lane stand.lane refl in sym (known stand.lane few) ∙ rw same refl;
  alone = λ lane l other. let apart = ne_eqb lane stand.lane other in sym (known lane (omega arith)) ∙ rw apart refl;
}

-- a column that is in one lane alone is past all frontiers if it is past the frontier of that lane
pub lone_clear : (reach : ℕ → Option Reach) (stand : LaneReach) (gaps : List ℕ) (front : List ℤ) (v : ℤ)
    → IsLone reach stand → length gaps < 4294967296
    → (pos 0 ≤ℤ at front stand.lane
    → (at front stand.lane +ℤ pos (slice_index gaps stand.lane + stand.reach.left)) ≤ℤ v)
    → IsPast reach gaps (length gaps) front v
lone_clear reach stand gaps front v lone few past lane s l es some = elim (cases_eq lane stand.lane) [
  | inl same ↦
      (let is : s ≡ stand.reach = same_Some s stand.reach (sym es ∙ (ap reach same ∙ lone.here)) in
      rw (is, same) (past (rw same at some)))
  | inr other ↦ absurd (none-some s (sym (lone.alone lane (omega arith) other) ∙ es))
]

-- a column in one lane alone, at v, advances its frontier there
pub lone_noted : (reach : ℕ → Option Reach) (stand : LaneReach) (front : List ℤ) (v : ℤ)
    → IsLone reach stand → length front < 4294967296 → stand.lane < length front
    → at front stand.lane ≤ℤ v → (lane : ℕ) → lane < length front
    → Advances (reach lane) v (at front lane) (at (slice_set front stand.lane (v +ℤ pos stand.reach.right)) lane)
lone_noted reach stand front v lone few inside following lane l = elim (cases_eq lane stand.lane) [
  | inl same ↦ rw (same, lone.here, get_or-set_same front stand.lane (v +ℤ pos stand.reach.right) (pos 0) inside)
      (omega (arith, ints), omega (arith, ints), inr refl)
  | inr other ↦
      rw (
        lone.alone lane (omega arith) other,
        get_or-set_other front stand.lane lane (v +ℤ pos stand.reach.right) (pos 0) other,
      ) refl
]
