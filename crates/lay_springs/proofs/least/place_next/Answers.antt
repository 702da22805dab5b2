use Rattle.std.proofs.Common.{◌≡◌, ◌≢◌, ◌+◌, ◌-◌, ◌*◌, ◌/◌, ◌≤◌, ◌<◌, ℕ, ℤ, pos, ◌+ℤ◌, ◌≤ℤ◌, List, length, ap, subst}
use Rattle.std.proofs.Common.{sym, inl, inr, ◌∙◌, slice_index_or, slice_set, to_z, of_z, w64, arith, refl}
use Rattle.std.proofs.Common.{get_or-set_same, get_or-set_other}
use Rattle.std.proofs.lemmas.Int.{ints, to_z-of_z}
use Rattle.std.proofs.lemmas.Option.{slice_get_read}
use Rattle.lay_springs.specs.Place.{length_at, reach_at, slack, AreLinear, IsPast, StandApart}
use Rattle.lay_springs.proofs.Extending.{placed_more, length_is, near_at, reach_is}
use Rattle.lay_springs.proofs.Near.{next_near}
use Rattle.lay_springs.proofs.Longer.{fewer_apart}
use Rattle.lay_springs.proofs.Fronts.{front_clear, front_below, front_more, past_bound}
use Rattle.lay_springs.proofs.least.place_next.Goals.{After-set_past-next}
use Rattle.lay_springs.proofs.least.place_next.Goals as goal

module _ (g : _) (c : After-set_past-next g) where
  abbrev v : ℤ
  v = c.set_past-next.result

  low : pos 0 ≤ℤ slice_index_or c.args.at.now (c.args.done.count - 1) (pos 0)
  low = (c.requires.placed.placed.small (c.args.done.count - 1) (omega arith)).0

  high : slice_index_or c.args.at.now (c.args.done.count - 1) (pos 0) ≤ℤ pos
      (1048576 + 3145728 * (c.args.done.count - 1))
  high = (c.requires.placed.placed.small (c.args.done.count - 1) (omega arith)).1

  before_is : to_z w64 (of_z w64 (slice_index_or c.args.at.now (c.args.done.count - 1) (pos 0)))
      ≡ slice_index_or c.args.at.now (c.args.done.count - 1) (pos 0)
  before_is = omega (arith, ints, low, high)

  -- the spring that was read, at a force, if the springs are linear
  spring_at : AreLinear (c.args.done.count + 1) (length_at g.C.Spring.length_of c.args.columns.cols.now) → (force : ℕ)
      → length_at g.C.Spring.length_of c.args.columns.cols.now force (c.args.done.count - 1)
      ≡ c.length-natural.result * force /
      256
  spring_at linear force =
      linear force (c.args.done.count - 1) (omega arith)
      ∙ ap (λ n. n * force / 256)
      (length_is g.C.Spring.length_of c.args.columns.cols.now 256 (c.args.done.count - 1) c.index-cols-j.result
      (slice_get_read c.args.columns.cols.now (length c.args.columns.cols.now) (c.args.done.count - 1)
      c.index-cols-j.result
      refl (omega arith)
      c.index-cols-j.is)
      ∙ sym c.length-natural.ensures)

  first_apart : (weak : ℕ → ℕ) (y : List ℤ)
      → StandApart (c.args.done.count + 1) (reach_at g.C.Spaced.reach_of c.args.columns.cols.now)
      c.args.columns.gaps.list.now
      weak y
      → StandApart c.args.done.count (reach_at g.C.Spaced.reach_of c.args.columns.cols.now) c.args.columns.gaps.list.now
      weak y
  first_apart weak y apart =
      fewer_apart c.args.done.count (c.args.done.count + 1) _ _ c.args.columns.gaps.list.now _ _ y (omega arith)
      (λ i lane l. refl)
      (λ i l. refl)
      apart

  spring_is : length_at g.C.Spring.length_of c.args.columns.cols.now c.args.done.force (c.args.done.count - 1) ≡
      c.length-spring.result
  spring_is =
      length_is g.C.Spring.length_of c.args.columns.cols.now c.args.done.force (c.args.done.count - 1)
      c.index-cols-j-2.result
      (slice_get_read c.args.columns.cols.now (length c.args.columns.cols.now) (c.args.done.count - 1)
      c.index-cols-j-2.result
      refl (omega arith)
      c.index-cols-j-2.is)
      ∙ sym c.length-spring.ensures

  col_is : reach_at g.C.Spaced.reach_of c.args.columns.cols.now c.args.done.count
      ≡ g.C.Spaced.reach_of c.index-cols-j-3.result
  col_is = reach_is g.C.Spaced.reach_of c.args.columns.cols.now c.args.done.count c.index-cols-j-3.result
      (slice_get_read c.args.columns.cols.now (length c.args.columns.cols.now) c.args.done.count c.index-cols-j-3.result
      refl
      (omega arith)
      c.index-cols-j-3.is)

  same : to_z w64 (of_z w64 v) ≡ v
  same = to_z-of_z w64 v (record { sfits = c.set_past-next.type_inv })

  -- no column is placed past this bound
  bound : v ≤ℤ pos (1048576 + 3145728 * c.args.done.count)
  bound =
      let short : c.length-spring.result ≤ 1048576 =
      rw c.length-spring.ensures (g.met.C.Spring.is_short c.index-cols-j-2.result c.args.done.force (omega arith)) in
      let from = c.after.ensures.least (pos (1048576 + 3145728 * c.args.done.count)) (omega (arith, ints, low, high))
      (omega (arith, ints, low, high)) in
      c.set_past-next.ensures.least (pos (1048576 + 3145728 * c.args.done.count)) (omega (arith, ints))
      (subst (λ r.
      IsPast r c.args.columns.gaps.list.now (length c.args.columns.gaps.list.now) c.args.front.now
      (pos (1048576 + 3145728 * c.args.done.count)))
      col_is
      (past_bound _ c.args.columns.gaps.list.now _ _ _ _ c.args.done.count c.args.at.now c.args.front.now
      c.requires.placed.placed
      (c.requires.placed.front c.requires.some)
      (λ k lane lt.
      near_at g.C.Spaced.reach_of c.args.columns.cols.now _ lane
      (λ col. g.met.C.Spaced.is_near col lane (let l = c.args.columns.gaps.lanes in omega arith)) k)
      c.args.columns.gaps.narrow))

  past : ((slice_index_or c.args.at.now (c.args.done.count - 1) (pos 0) +ℤ pos 100) ≤ℤ v)
      × ((slice_index_or c.args.at.now (c.args.done.count - 1) (pos 0) +ℤ pos c.length-spring.result) ≤ℤ v)
  past = (omega (arith, ints, low, high), omega (arith, ints, low, high))

  begins : pos 0 ≤ℤ v
  begins = omega (arith, ints, low, (past).0)

  -- the column isn't past its abscissa in a list at most this far below, nor past the end of the spring
  from_near : (weak : ℕ → ℕ) (y : List ℤ) (d : ℕ)
      → StandApart (c.args.done.count + 1) (reach_at g.C.Spaced.reach_of c.args.columns.cols.now)
      c.args.columns.gaps.list.now
      weak y
      → ((k : ℕ)
      → k < c.args.done.count → slice_index_or c.args.at.now k (pos 0) ≤ℤ (slice_index_or y k (pos 0) +ℤ pos d))
      → (w : ℤ) → (slice_index_or y c.args.done.count (pos 0) +ℤ pos d) ≤ℤ w
      → (slice_index_or c.args.at.now (c.args.done.count - 1) (pos 0) +ℤ pos c.length-spring.result) ≤ℤ w
      → v ≤ℤ w
  from_near weak y d h near w up spring =
      let z : c.args.done.count - 1 + 1 ≡ c.args.done.count = omega arith in
      let one = rw z at (h.steps (c.args.done.count - 1) (omega arith)) in
      let below = near (c.args.done.count - 1) (omega arith) in
      let from = c.after.ensures.least w (omega (arith, ints, low, high)) (omega (arith, ints, low, high)) in
      c.set_past-next.ensures.least w (rw (to_z-of_z w64 c.after.result (record { sfits = c.after.type_inv })) from)
      (subst (λ r. IsPast r c.args.columns.gaps.list.now (length c.args.columns.gaps.list.now) c.args.front.now w)
      col_is
      (front_below _ c.args.columns.gaps.list.now _ _ _ _ c.args.done.count c.args.at.now c.args.front.now
      c.requires.placed.placed
      (c.requires.placed.front c.requires.some)
      weak y d w h near up))

pub set_past-next-requires-clause-near : goal.set_past-next-requires-clause-near
set_past-next-requires-clause-near g c =
    let before = c.requires.placed.placed.small (c.args.done.count - 1) (omega arith) in
    let low = before.0 in
    let high = before.1 in
    let short : c.length-spring.result ≤ 1048576 =
    rw c.length-spring.ensures (g.met.C.Spring.is_short c.index-cols-j-2.result c.args.done.force (omega arith)) in
    let from = c.after.ensures.least (pos 1152921504606846976) (omega (arith, ints)) (omega (arith, ints)) in
    omega (arith, ints)

pub tightened-requires-clause-small : goal.tightened-requires-clause-small
tightened-requires-clause-small g c =
    let before = c.requires.placed.placed.small (c.args.done.count - 1) (omega arith) in
    let low = before.0 in
    let high = before.1 in
    omega (arith, ints)

pub tightened-requires-clause-short : goal.tightened-requires-clause-short
tightened-requires-clause-short g c =
    let short : c.length-natural.result ≤ 1048576 =
    rw c.length-natural.ensures (g.met.C.Spring.is_short c.index-cols-j.result 256 (omega arith)) in
    let t = c.requires.placed.tight.0 in
    let few = c.args.columns.few in
    let more = c.requires.more in
    omega arith

pub tightened-requires-clause-few : goal.tightened-requires-clause-few
tightened-requires-clause-few g c =
    let t = c.requires.placed.tight.1 in
    let few = c.args.columns.few in
    let more = c.requires.more in
    omega arith

pub returns-clause-placed : goal.returns-clause-placed
returns-clause-placed g c =
    let s = (goal.at.returns-clause-placed g c).After-set_past-next in
    let t = c.tightened.ensures in
    let z : c.args.done.count - 1 + 1 ≡ c.args.done.count = omega arith in
    let short : c.length-natural.result ≤ 1048576 =
    rw c.length-natural.ensures (g.met.C.Spring.is_short c.index-cols-j.result 256 (omega arith)) in
    let before = c.requires.placed.tight in
    record {
      within = let more = c.requires.more in omega arith;
      tight = elim t [
        | inl h ↦ rw (h.1, h.2) (omega arith, omega arith)
        | inr h ↦ rw (h.1, h.2) (omega arith, omega arith)
      ];
      placed =
          rw (same g s)
          (placed_more _ c.args.columns.gaps.list.now _ c.args.done.force c.args.done.tight.natural
          c.args.done.tight.count
          c.tightened.result.natural
          c.tightened.result.count
          c.args.at.now c.args.done.count (v g s) c.requires.some (omega arith) c.requires.placed.placed
          (elim t [ inl h ↦ rw h.1 (omega arith) | inr h ↦ rw h.1 (omega arith) ])
          (elim t [ inl h ↦ rw h.2 (omega arith) | inr h ↦ rw h.2 (omega arith) ])
          (λ k q. let z : c.args.done.count - 1 ≡ k = omega arith in rw (← z) (past g s).0)
          (λ k q. let z : c.args.done.count - 1 ≡ k = omega arith in rw (← z, spring_is g s) (past g s).1)
          (front_clear _ c.args.columns.gaps.list.now _ _ _ _ c.args.done.count c.args.at.now c.args.front.now
          c.requires.placed.placed
          (c.requires.placed.front c.requires.some)
          (v g s)
          (subst (λ r.
          IsPast r c.args.columns.gaps.list.now (length c.args.columns.gaps.list.now) c.args.front.now (v g s))
          (sym (col_is g s))
          c.set_past-next.ensures.clear))
          (λ y apart.
          let least = c.requires.placed.placed.least y (first_apart g s _ y apart) in
          let last = least (c.args.done.count - 1) (omega arith) in
          let sprung = rw (z, spring_is g s) at (apart.springs (c.args.done.count - 1) (omega arith)) in
          from_near g s (length_at g.C.Spring.length_of c.args.columns.cols.now c.args.done.force) y 0 apart
          (λ k l. let below = least k l in omega (arith, ints, below)) (slice_index_or y c.args.done.count (pos 0))
          (omega (arith, ints)) (omega (arith, ints, last, sprung)))
          (λ linear weak drop y e apart.
          let len : c.length-spring.result ≡ c.length-natural.result * (weak + drop) / 256 =
          sym (spring_is g s)
          ∙ (spring_at g s linear c.args.done.force ∙ ap (λ f. c.length-natural.result * f / 256) (sym e)) in
          let near = c.requires.placed.placed.near (λ force i less. linear force i (omega arith)) weak drop y e
          (first_apart g s _ y apart) in
          next_near c.args.done.tight.natural c.args.done.tight.count c.tightened.result.natural
          c.tightened.result.count
          c.length-natural.result weak drop
          (slice_index_or c.args.at.now (c.args.done.count - 1) (pos 0)) (v g s)
          (slice_index_or y (c.args.done.count - 1) (pos 0))
          (slice_index_or y c.args.done.count (pos 0))
          (rw (before_is g s, same g s, len) at t) (near (c.args.done.count - 1) (omega arith))
          (rw (z, spring_at g s linear weak) at (apart.springs (c.args.done.count - 1) (omega arith)))
          (rw len at (past g s).1)
          (λ w up spring.
          from_near g s (length_at g.C.Spring.length_of c.args.columns.cols.now weak) y
          (slack c.args.done.tight.natural c.args.done.tight.count drop) apart near w up (rw len spring)))
          (begins g s, bound g s));
      front = λ _.
          rw (same g s) (front_more (reach_at g.C.Spaced.reach_of c.args.columns.cols.now)
          (length c.args.columns.gaps.list.now) c.args.done.count (v g s)
          c.args.at.now (slice_set c.args.at.now c.args.done.count (v g s)) c.args.front.now c.set_past-next.new.front
          (λ k l.
          let ne : k ≢ c.args.done.count = omega arith in
          get_or-set_other c.args.at.now c.args.done.count k (v g s) (pos 0) ne)
          (get_or-set_same c.args.at.now c.args.done.count (v g s) (pos 0) (omega arith))
          (begins g s) (let top = bound g s in omega (arith, ints))
          (λ lane lt.
          near_at g.C.Spaced.reach_of c.args.columns.cols.now _ lane
          (λ col. g.met.C.Spaced.is_near col lane (let l = c.args.columns.gaps.lanes in omega arith)) c.args.done.count)
          (λ lane lt. rw (ap (λ r. r lane) (col_is g s)) (c.set_past-next.ensures.noted lane (omega arith)))
          (c.requires.placed.front c.requires.some));
    }
