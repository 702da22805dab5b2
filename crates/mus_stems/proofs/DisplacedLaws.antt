-- Heads are displaced by the rule, and the rule determines which.
use Rattle.std.proofs.Common.{◌≡◌, ℕ, zero, suc, ◌<◌, ℤ, pos, Bool, true, false, cond, not, ◌&&◌, List, [], ◌∷◌, length}
use Rattle.std.proofs.Common.{replicate, refl, sym, ◌∙◌, ap, subst, Option, Some, None, arith, length-set}
use Rattle.std.proofs.Common.{get_or-set_same, get_or-set_other, ext_get_or}
use Rattle.std.proofs.lemmas.List.{get_or-replicate, length-replicate}
use Rattle.std.specs.Prelude.{slice_get, slice_set, slice_index_or}
use Rattle.std.specs.Ordering.{int_eq}
use Rattle.std.specs.List.{AllByRecursion}
use Rattle.mus_stems.specs.declared.heads.HeadPosition.{HeadPosition}
use Rattle.mus_stems.specs.declared.heads.LastHead.{LastHead}
use Rattle.mus_stems.specs.Heads.{AllNear, Taken, taken, is_step_past, gives_way, shifted, head_shift, shifts_of}
use Rattle.mus_stems.specs.Order.{head_at, IsHead, AreTaken}
use Rattle.mus_stems.specs.Displaced.{dx_of, is_displaced, dx_where, DisplacedAfter, Displaced, AreDisplaced}
use Rattle.mus_stems.proofs.OrderLaws.{of_each, Apart, are_apart, taken_are, one_order}

-- places within a list
within_list : (ss : List HeadPosition) (k : ℕ) (s : HeadPosition) → slice_get ss k ≡ Some s → k < length ss
within_list [] k s is = absurd (grind (arith, is))
within_list (d ∷ ss) zero s is = omega arith
within_list (d ∷ ss) (suc k) s is = (let h = within_list ss k s is in omega (arith, h))

pub head_within : (up : Bool) (ss : List HeadPosition) (t : Taken) → IsHead up ss t → t.place < length ss
head_within up ss t is = within_list ss t.place is.0 is.1

-- writing the entries of the heads ts leaves all other places unchanged
cond_get : (b : Bool) (xs ys : List ℤ) (p : ℕ) (z : ℤ)
    → slice_index_or xs p (pos 0) ≡ z → slice_index_or ys p (pos 0) ≡ z → slice_index_or (cond b xs ys) p (pos 0) ≡ z
cond_get true xs ys p z e f = e
cond_get false xs ys p z e f = f

others_stay : (dx : ℤ) (b : Option LastHead) (ts : List Taken) (xs : List ℤ) (p : ℕ)
    → AllByRecursion (λ t. t.place ≡ p → ⊥) ts
    → slice_index_or (shifted dx b ts xs) p (pos 0) ≡ slice_index_or xs p (pos 0)
others_stay dx b [] xs p apart = refl
others_stay dx b (t ∷ ts) xs p apart =
    cond_get (gives_way b t.level)
    (shifted dx (Some (record { level = t.level; moved = true })) ts (slice_set xs t.place dx))
    (shifted dx (Some (record { level = t.level; moved = false })) ts xs) p (slice_index_or xs p (pos 0))
    (others_stay dx (Some (record { level = t.level; moved = true })) ts (slice_set xs t.place dx) p apart.1
    ∙ get_or-set_other xs t.place p dx (pos 0) (λ e. apart.0 (sym e)))
    (others_stay dx (Some (record { level = t.level; moved = false })) ts xs p apart.1)

-- each head as it follows from the one taken before it
last_of : Taken → Bool → Option LastHead
last_of t moved = Some (record { level = t.level; moved = moved })

Follows : Bool → List ℤ → Option LastHead → List Taken → Type 0
Follows up xs b [] = Unit {0}
Follows up xs b (t ∷ ts) =
    (dx_of xs t ≡ dx_where up (gives_way b t.level)) × Follows up xs (last_of t (gives_way b t.level)) ts

Free : List ℤ → Taken → Type 0
Free xs t = (t.place < length xs) × (dx_of xs t ≡ pos 0)

still_free : (xs : List ℤ) (t : Taken) (dx : ℤ) (ts : List Taken)
    → AllByRecursion (λ u. u.place ≡ t.place → ⊥) ts → AllByRecursion (Free xs) ts
    → AllByRecursion (Free (slice_set xs t.place dx)) ts
unfolding Free
still_free xs t dx [] apart free = tt {0}
still_free xs t dx (u ∷ us) apart free = (
  (
    subst (λ n. u.place < n) (sym (length-set xs t.place dx)) free.0.0,
    get_or-set_other xs t.place u.place dx (pos 0) apart.0 ∙ free.0.1,
  ),
  still_free xs t dx us apart.1 free.1,
)

follows : (up : Bool) (b : Option LastHead) (ts : List Taken) (xs : List ℤ)
    → Apart ts → AllByRecursion (Free xs) ts → Follows up (shifted (head_shift up) b ts xs) b ts
unfolding Follows Free last_of
follows up b [] xs apart free = tt {0}
follows up b (t ∷ ts) xs apart free =
    step (gives_way b t.level)
    (follows up (Some (record { level = t.level; moved = true })) ts (slice_set xs t.place (head_shift up)) apart.1
    (still_free xs t (head_shift up) ts apart.0 free.1))
    (follows up (Some (record { level = t.level; moved = false })) ts xs apart.1 free.1)
  where
    step : (g : Bool) →
        Follows up
        (shifted (head_shift up) (Some (record { level = t.level; moved = true })) ts
        (slice_set xs t.place (head_shift up)))
        (Some (record { level = t.level; moved = true })) ts
        → Follows up (shifted (head_shift up) (Some (record { level = t.level; moved = false })) ts xs)
        (Some (record { level = t.level; moved = false })) ts
        → (dx_of
        (cond g (shifted (head_shift up) (Some (record { level = t.level; moved = true })) ts
        (slice_set xs t.place (head_shift up)))
        (shifted (head_shift up) (Some (record { level = t.level; moved = false })) ts xs))
        t
        ≡ dx_where up g)
        × Follows up
        (cond g (shifted (head_shift up) (Some (record { level = t.level; moved = true })) ts
        (slice_set xs t.place (head_shift up)))
        (shifted (head_shift up) (Some (record { level = t.level; moved = false })) ts xs))
        (Some (record { level = t.level; moved = g })) ts
    step true h h' = (
      others_stay (head_shift up) (Some (record { level = t.level; moved = true })) ts
          (slice_set xs t.place (head_shift up)) t.place apart.0
          ∙ get_or-set_same xs t.place (head_shift up) (pos 0) free.0.0,
      h,
    )
    step false h h' = (
      others_stay (head_shift up) (Some (record { level = t.level; moved = false })) ts xs t.place apart.0 ∙ free.0.1,
      h',
    )

-- the dx of a head says whether it is displaced
read_off : (up g : Bool) → not (int_eq (dx_where up g) (pos 0)) ≡ g
unfolding head_shift
read_off true true = refl
read_off true false = refl
read_off false true = refl
read_off false false = refl

displaced_after : (up : Bool) (xs : List ℤ) (b : Taken) (moved : Bool) (ts : List Taken)
    → is_displaced xs b ≡ moved → Follows up xs (last_of b moved) ts → DisplacedAfter up xs b ts
unfolding Follows last_of gives_way
displaced_after up xs b moved [] e follow = tt {0}
displaced_after up xs b moved (t ∷ ts) e follow =
    let g : Bool = is_step_past b.level t.level && not moved in (
      follow.0 ∙ ap (λ m. dx_where up (is_step_past b.level t.level && not m)) (sym e),
      displaced_after up xs t g ts (ap (λ z. not (int_eq z (pos 0))) follow.0 ∙ read_off up g) follow.1,
    )

displaced : (up : Bool) (xs : List ℤ) (ts : List Taken) → Follows up xs None ts → Displaced up xs ts
unfolding Follows gives_way
displaced up xs [] follow = tt {0}
displaced up xs (t ∷ ts) follow =
    (follow.0, displaced_after up xs t false ts (ap (λ z. not (int_eq z (pos 0))) follow.0) follow.1)

all_free : (up : Bool) (ss : List HeadPosition) (ts : List Taken)
    → AllByRecursion (IsHead up ss) ts → AllByRecursion (Free (replicate (length ss) (pos 0))) ts
unfolding Free
all_free up ss [] are = tt {0}
all_free up ss (t ∷ ts) are =
    let h = head_within up ss t are.0 in (
      (
        subst (λ n. t.place < n) (sym (length-replicate (length ss) (pos 0))) h,
        get_or-replicate (length ss) t.place (pos 0) (pos 0) h,
      ),
      all_free up ss ts are.1,
    )

lengths_stay : (dx : ℤ) (b : Option LastHead) (ts : List Taken) (xs : List ℤ) → length (shifted dx b ts xs) ≡ length xs
lengths_stay dx b [] xs = refl
lengths_stay dx b (t ∷ ts) xs =
    step (gives_way b t.level)
    (lengths_stay dx (Some (record { level = t.level; moved = true })) ts (slice_set xs t.place dx)
    ∙ length-set xs t.place dx)
    (lengths_stay dx (Some (record { level = t.level; moved = false })) ts xs)
  where
    step : (g : Bool)
        → length (shifted dx (Some (record { level = t.level; moved = true })) ts (slice_set xs t.place dx)) ≡ length xs
        → length (shifted dx (Some (record { level = t.level; moved = false })) ts xs) ≡ length xs →
        length (cond g (shifted dx (Some (record { level = t.level; moved = true })) ts (slice_set xs t.place dx))
        (shifted dx (Some (record { level = t.level; moved = false })) ts xs))
        ≡ length xs
    step true e f = e
    step false e f = f

pub shifts_displace : (up : Bool) (ss : List HeadPosition) → AllNear ss → AreDisplaced up ss (shifts_of up ss)
unfolding shifts_of
shifts_displace up ss near =
    let a = taken_are up ss near in
    record {
      each =
          lengths_stay (head_shift up) None (taken up ss) (replicate (length ss) (pos 0))
          ∙ length-replicate (length ss) (pos 0);
      order = taken up ss;
      taken = a;
      displaced =
          displaced up (shifts_of up ss) (taken up ss)
          (follows up None (taken up ss) (replicate (length ss) (pos 0)) (are_apart up ss (taken up ss) a)
          (all_free up ss (taken up ss) a.only));
    }

-- one dx for each head
same_after : (up : Bool) (xs ys : List ℤ) (b : Taken) (ts : List Taken)
    → dx_of xs b ≡ dx_of ys b → DisplacedAfter up xs b ts → DisplacedAfter up ys b ts
    → AllByRecursion (λ t. dx_of xs t ≡ dx_of ys t) ts
same_after up xs ys b [] e p q = tt {0}
same_after up xs ys b (t ∷ ts) e p q =
    let same : dx_of xs t ≡ dx_of ys t =
    p.0 ∙ ap (λ z. dx_where up (is_step_past b.level t.level && not (not (int_eq z (pos 0))))) e ∙ sym q.0 in
    (same, same_after up xs ys t ts same p.1 q.1)

same_all : (up : Bool) (xs ys : List ℤ) (ts : List Taken)
    → Displaced up xs ts → Displaced up ys ts → AllByRecursion (λ t. dx_of xs t ≡ dx_of ys t) ts
same_all up xs ys [] p q = tt {0}
same_all up xs ys (t ∷ ts) p q = (let same = p.0 ∙ sym q.0 in (same, same_after up xs ys t ts same p.1 q.1))

-- lists that agree on all heads that are taken agree at all places
pub same_lists : {A : Type 0} (up : Bool) (ss : List HeadPosition) (ts : List Taken) (none : A) (xs ys : List A)
    → AreTaken up ss ts → length xs ≡ length ss → length ys ≡ length ss
    → AllByRecursion (λ t. slice_index_or xs t.place none ≡ slice_index_or ys t.place none) ts → xs ≡ ys
same_lists up ss ts none xs ys a e f same = ext_get_or none xs ys (e ∙ sym f) each
  where
    first : (k : ℕ) → k < length ss → (s : HeadPosition) × (slice_get ss k ≡ Some s)
    first k lt = found ss k lt
      where
        found : (ss : List HeadPosition) (k : ℕ) → k < length ss → (s : HeadPosition) × (slice_get ss k ≡ Some s)
        found [] k lt = absurd (omega (arith, lt))
        found (s ∷ ss) zero lt = (s, refl)
        found (s ∷ ss) (suc k) lt = found ss k (omega (arith, lt))

    each : (k : ℕ) → k < length xs → slice_index_or xs k none ≡ slice_index_or ys k none
    each k lt =
        let h = first k (subst (λ n. k < n) e lt) in
        of_each (λ t. slice_index_or xs t.place none ≡ slice_index_or ys t.place none) ts (head_at up k h.0) same
        (a.all k h.0 h.1)

pub one_displacing : (up : Bool) (ss : List HeadPosition) (xs ys : List ℤ)
    → AreDisplaced up ss xs → AreDisplaced up ss ys → xs ≡ ys
one_displacing up ss xs ys p q =
    let same = one_order up ss p.order q.order p.taken q.taken in
    same_lists up ss p.order (pos 0) xs ys p.taken p.each q.each
    (same_all up xs ys p.order p.displaced (subst (Displaced up ys) (sym same) q.displaced))
