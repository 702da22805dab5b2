-- The heads that are taken level by level are those of an event in their order, and there is only one such order.
use Rattle.std.proofs.Common.{◌≡◌, ℕ, zero, suc, ◌+◌, ◌≤◌, ℤ, pos, ◌+ℤ◌, ◌≤ℤ◌, ◌<ℤ◌, ◌⊎◌, inl, inr, Bool, true}
use Rattle.std.proofs.Common.{false, cond, List, [], ◌∷◌, refl, sym, ◌∙◌, ap, subst, Some, arith}
use Rattle.std.proofs.lemmas.Int.{ints}
use Rattle.std.proofs.lemmas.Bool.{false≢true}
use Rattle.std.proofs.lemmas.Bool.Decides.{Decides-int_eq}
use Rattle.std.specs.Prelude.{slice_get}
use Rattle.std.specs.Ordering.{int_eq}
use Rattle.std.specs.List.{AllByRecursion}
use Rattle.mus_stems.specs.declared.heads.HeadPosition.{HeadPosition}
use Rattle.mus_stems.specs.Distances.{lowest_level, level_count}
use Rattle.mus_stems.specs.Heads.{IsNearStaff, AllNear, Taken, level_of, taken_one, taken_at, taken_from, taken}
use Rattle.mus_stems.specs.Order.{IsBefore, AreTakenInOrder, head_at, IsHead, IsAmong, AreTaken}

-- what holds of all holds of each
pub of_each : (P : Taken → Type 0) (ts : List Taken) (t : Taken) → AllByRecursion P ts → IsAmong ts t → P t
of_each P [] t all among = absurd among
of_each P (u ∷ us) t all (inl e) = subst P e all.0
of_each P (u ∷ us) t all (inr h) = of_each P us t all.1 h

pub all_of : (P Q : Taken → Type 0)
    → ((t : Taken) → P t → Q t) → (ts : List Taken) → AllByRecursion P ts → AllByRecursion Q ts
all_of P Q f [] all = tt {0}
all_of P Q f (t ∷ ts) all = (f t all.0, all_of P Q f ts all.1)

-- no head is taken before itself, and of two heads only one is before the other
pub not_itself : (a : Taken) → IsBefore a a → ⊥
not_itself a (inl lt) = omega (arith, ints, lt)
not_itself a (inr h) = omega (arith, h.1)

not_both : (a b : Taken) → IsBefore a b → IsBefore b a → ⊥
not_both a b (inl p) (inl q) = omega (arith, ints, p, q)
not_both a b (inl p) (inr q) = (let e = q.0 in omega (arith, ints, p, e))
not_both a b (inr p) (inl q) = (let e = p.0 in omega (arith, ints, q, e))
not_both a b (inr p) (inr q) = (let g = p.1 in let h = q.1 in omega (arith, g, h))

-- the heads taken at a level and later
IsFrom : ℤ → ℕ → Taken → Type 0
IsFrom v k t = (v <ℤ t.level) ⊎ ((v ≡ t.level) × (k ≤ t.place))

later : (v : ℤ) (k : ℕ) (t : Taken) → IsFrom v (k + 1) t → IsFrom v k t
unfolding IsFrom
later v k t (inl lt) = inl lt
later v k t (inr h) = inr (h.0, (let g = h.1 in omega (arith, g)))

following : (v : ℤ) (k : ℕ) (signed : Bool) (t : Taken)
    → IsFrom v (k + 1) t → IsBefore (record { place = k; level = v; signed = signed }) t
unfolding IsFrom
following v k signed t (inl lt) = inl lt
following v k signed t (inr h) = inr (h.0, (let g = h.1 in omega (arith, g)))

at_order : (up : Bool) (v : ℤ) (k : ℕ) (ss : List HeadPosition) (rest : List Taken)
    → AreTakenInOrder rest → AllByRecursion (λ t. v <ℤ t.level) rest
    → AreTakenInOrder (taken_at up v k ss rest) × AllByRecursion (IsFrom v k) (taken_at up v k ss rest)
unfolding IsFrom taken_one
at_order up v k [] rest order above = (order, all_of (λ t. v <ℤ t.level) (IsFrom v k) (λ t h. inl h) rest above)
at_order up v k (s ∷ ss) rest order above =
    step (int_eq (level_of up s.height) v) (at_order up v (k + 1) ss rest order above)
  where
    step : (b : Bool)
        → AreTakenInOrder (taken_at up v (k + 1) ss rest)
        × AllByRecursion (IsFrom v (k + 1)) (taken_at up v (k + 1) ss rest)
        → AreTakenInOrder
        (cond b (record { place = k; level = v; signed = s.signed } ∷ taken_at up v (k + 1) ss rest)
        (taken_at up v (k + 1) ss rest))
        × AllByRecursion (IsFrom v k)
        (cond b (record { place = k; level = v; signed = s.signed } ∷ taken_at up v (k + 1) ss rest)
        (taken_at up v (k + 1) ss rest))
    step true h = (
      (
        all_of (IsFrom v (k + 1)) (IsBefore (record { place = k; level = v; signed = s.signed }))
            (following v k s.signed)
            (taken_at up v (k + 1) ss rest) h.1,
        h.0,
      ),
      (inr (refl, omega arith), all_of (IsFrom v (k + 1)) (IsFrom v k) (later v k) (taken_at up v (k + 1) ss rest) h.1),
    )
    step false h = (h.0, all_of (IsFrom v (k + 1)) (IsFrom v k) (later v k) (taken_at up v (k + 1) ss rest) h.1)

past : (v : ℤ) (t : Taken) → (v +ℤ pos 1) ≤ℤ t.level → v <ℤ t.level
past v t h = omega (arith, ints, h)

not_below : (v : ℤ) (t : Taken) → IsFrom v 0 t → v ≤ℤ t.level
unfolding IsFrom
not_below v t (inl lt) = omega (arith, ints, lt)
not_below v t (inr h) = (let e = h.0 in omega (arith, ints, e))

from_order : (up : Bool) (v : ℤ) (n : ℕ) (ss : List HeadPosition)
    → AreTakenInOrder (taken_from up v n ss) × AllByRecursion (λ t. v ≤ℤ t.level) (taken_from up v n ss)
from_order up v zero ss = (tt {0}, tt {0})
from_order up v (suc n) ss =
    let rest = from_order up (v +ℤ pos 1) n ss in
    let h = at_order up v 0 ss (taken_from up (v +ℤ pos 1) n ss) rest.0
    (all_of (λ t. (v +ℤ pos 1) ≤ℤ t.level) (λ t. v <ℤ t.level) (past v) (taken_from up (v +ℤ pos 1) n ss) rest.1) in (
      h.0,
      all_of (IsFrom v 0) (λ t. v ≤ℤ t.level) (not_below v) (taken_at up v 0 ss (taken_from up (v +ℤ pos 1) n ss)) h.1,
    )

-- only heads of the event: ss are its heads from place k on
at_heads : (up : Bool) (v : ℤ) (k : ℕ) (whole ss : List HeadPosition) (rest : List Taken)
    → ((j : ℕ) → slice_get whole (k + j) ≡ slice_get ss j)
    → AllByRecursion (IsHead up whole) rest → AllByRecursion (IsHead up whole) (taken_at up v k ss rest)
unfolding taken_one
at_heads up v k whole [] rest same all = all
at_heads up v k whole (s ∷ ss) rest same all =
    step (int_eq (level_of up s.height) v) (λ e. (Decides-int_eq (level_of up s.height) v).0 e)
    (at_heads up v (k + 1) whole ss rest next all)
  where
    next : (j : ℕ) → slice_get whole ((k + 1) + j) ≡ slice_get ss j
    next j = (let e : (k + 1) + j ≡ k + suc j = omega arith in ap (λ n. slice_get whole n) e) ∙ same (suc j)

    here : slice_get whole k ≡ Some s
    here = (let e : k ≡ k + 0 = omega arith in ap (λ n. slice_get whole n) e) ∙ same 0

    step : (b : Bool)
        → (b ≡ true → level_of up s.height ≡ v) → AllByRecursion (IsHead up whole) (taken_at up v (k + 1) ss rest)
        → AllByRecursion (IsHead up whole)
        (cond b (record { place = k; level = v; signed = s.signed } ∷ taken_at up v (k + 1) ss rest)
        (taken_at up v (k + 1) ss rest))
    step true e h = ((s, here, ap (λ l. record { place = k; level = l; signed = s.signed }) (e refl)), h)
    step false e h = h

from_heads : (up : Bool) (v : ℤ) (n : ℕ) (ss : List HeadPosition) → AllByRecursion (IsHead up ss) (taken_from up v n ss)
from_heads up v zero ss = tt {0}
from_heads up v (suc n) ss =
    at_heads up v 0 ss ss (taken_from up (v +ℤ pos 1) n ss) same (from_heads up (v +ℤ pos 1) n ss)
  where
    same : (j : ℕ) → slice_get ss (0 + j) ≡ slice_get ss j
    same j = (let e : 0 + j ≡ j = omega arith in ap (λ i. slice_get ss i) e)

-- all heads of the event
at_among : (up : Bool) (v : ℤ) (k : ℕ) (ss : List HeadPosition) (rest : List Taken) (t : Taken)
    → IsAmong rest t → IsAmong (taken_at up v k ss rest) t
unfolding taken_one
at_among up v k [] rest t among = among
at_among up v k (s ∷ ss) rest t among = step (int_eq (level_of up s.height) v) (at_among up v (k + 1) ss rest t among)
  where
    step : (b : Bool) → IsAmong (taken_at up v (k + 1) ss rest) t →
        IsAmong (cond b (record { place = k; level = v; signed = s.signed } ∷ taken_at up v (k + 1) ss rest)
        (taken_at up v (k + 1) ss rest))
        t
    step true h = inr h
    step false h = h

at_all : (up : Bool) (v : ℤ) (k j : ℕ) (ss : List HeadPosition) (rest : List Taken) (s : HeadPosition)
    → slice_get ss j ≡ Some s → level_of up s.height ≡ v
    → IsAmong (taken_at up v k ss rest) (head_at up (k + j) s)
unfolding taken_one
at_all up v k j [] rest s is e = absurd (grind (arith, is))
at_all up v k zero (d ∷ ss) rest s is e =
    step (int_eq (level_of up d.height) v)
    ((Decides-int_eq (level_of up d.height) v).1 (ap (λ (x : HeadPosition). level_of up x.height) same ∙ e))
  where
    same : d ≡ s
    same = grind (arith, is)

    it : record { place = k; level = v; signed = d.signed } ≡ head_at up (k + 0) s
    it = (let g : k ≡ k + 0 = omega arith in λ i. record { place = g i; level = sym e i; signed = (same i).signed })

    step : (b : Bool) → b ≡ true
        → IsAmong
        (cond b (record { place = k; level = v; signed = d.signed } ∷ taken_at up v (k + 1) ss rest)
        (taken_at up v (k + 1) ss rest))
        (head_at up (k + 0) s)
    step true h = inl it
    step false h = absurd (grind (arith, h))
at_all up v k (suc j) (d ∷ ss) rest s is e =
    step (int_eq (level_of up d.height) v) (at_all up v (k + 1) j ss rest s is e)
  where
    step : (b : Bool) → IsAmong (taken_at up v (k + 1) ss rest) (head_at up ((k + 1) + j) s) →
        IsAmong (cond b (record { place = k; level = v; signed = d.signed } ∷ taken_at up v (k + 1) ss rest)
        (taken_at up v (k + 1) ss rest))
        (head_at up (k + suc j) s)
    step true h =
        inr (subst (λ n. IsAmong (taken_at up v (k + 1) ss rest) (head_at up n s)) {x = (k + 1) + j} {y = k + suc j}
        (omega arith) h)
    step false h =
        subst (λ n. IsAmong (taken_at up v (k + 1) ss rest) (head_at up n s)) {x = (k + 1) + j} {y = k + suc j}
        (omega arith) h

from_all : (up : Bool) (v : ℤ) (n j : ℕ) (ss : List HeadPosition) (s : HeadPosition)
    → slice_get ss j ≡ Some s → v ≤ℤ level_of up s.height → level_of up s.height <ℤ (v +ℤ pos n)
    → IsAmong (taken_from up v n ss) (head_at up j s)
from_all up v zero j ss s is low high = absurd (omega (arith, ints, low, high))
from_all up v (suc n) j ss s is low high =
    step (int_eq (level_of up s.height) v) (Decides-int_eq (level_of up s.height) v).0
    (Decides-int_eq (level_of up s.height) v).1
    (λ above. from_all up (v +ℤ pos 1) n j ss s is above (omega (arith, ints, high)))
  where
    step : (b : Bool) → (b ≡ true → level_of up s.height ≡ v) → (level_of up s.height ≡ v → b ≡ true) →
        ((v +ℤ pos 1) ≤ℤ level_of up s.height → IsAmong (taken_from up (v +ℤ pos 1) n ss) (head_at up j s)) →
        IsAmong (taken_at up v 0 ss (taken_from up (v +ℤ pos 1) n ss)) (head_at up j s)
    step true there back more =
        subst (λ i. IsAmong (taken_at up v 0 ss (taken_from up (v +ℤ pos 1) n ss)) (head_at up i s)) {x = 0 + j} {y = j}
        (omega arith)
        (at_all up v 0 j ss (taken_from up (v +ℤ pos 1) n ss) s is (there refl))
    step false there back more =
        let differs : level_of up s.height ≡ v → ⊥ = (λ e. false≢true (back e)) in
        at_among up v 0 ss (taken_from up (v +ℤ pos 1) n ss) (head_at up j s) (more (omega (arith, ints, low, differs)))

near_at : (ss : List HeadPosition) (k : ℕ) (s : HeadPosition) → AllNear ss → slice_get ss k ≡ Some s → IsNearStaff s
near_at [] k s near is = absurd (grind (arith, is))
near_at (d ∷ ss) zero s near is = (let e : d ≡ s = grind (arith, is) in subst IsNearStaff e near.0)
near_at (d ∷ ss) (suc k) s near is = near_at ss k s near.1 is

level_near : (up : Bool) (s : HeadPosition)
    → IsNearStaff s
    → (lowest_level ≤ℤ level_of up s.height) × (level_of up s.height <ℤ (lowest_level +ℤ pos level_count))
unfolding level_of
level_near true s near = (omega (arith, ints, near.0, near.1), omega (arith, ints, near.0, near.1))
level_near false s near = (omega (arith, ints, near.0, near.1), omega (arith, ints, near.0, near.1))

pub taken_are : (up : Bool) (ss : List HeadPosition) → AllNear ss → AreTaken up ss (taken up ss)
unfolding taken
taken_are up ss near = record {
  order = (from_order up lowest_level level_count ss).0;
  only = from_heads up lowest_level level_count ss;
  all =
      λ k s is.
      (let l = level_near up s (near_at ss k s near is) in from_all up lowest_level level_count k ss s is l.0 l.1);
}

-- two ordered lists of the same heads are equal
prefixes : (t u : Taken) (ts us : List Taken)
    → AreTakenInOrder (t ∷ ts) → AreTakenInOrder (u ∷ us) → IsAmong (u ∷ us) t → IsAmong (t ∷ ts) u → t ≡ u
prefixes t u ts us ot ou (inl e) back = sym e
prefixes t u ts us ot ou (inr g) (inl e) = e
prefixes t u ts us ot ou (inr g) (inr h) =
    absurd (not_both t u (of_each (IsBefore t) ts u ot.0 h) (of_each (IsBefore u) us t ou.0 g))

after_prefix_is : (t u x : Taken) (ts us : List Taken)
    → AreTakenInOrder (t ∷ ts) → t ≡ u → IsAmong ts x → IsAmong (u ∷ us) x → IsAmong us x
after_prefix_is t u x ts us ot e among (inl g) =
    absurd (not_itself x (subst (λ y. IsBefore y x) (e ∙ g) (of_each (IsBefore t) ts x ot.0 among)))
after_prefix_is t u x ts us ot e among (inr h) = h

orders_same : (ts us : List Taken)
    → AreTakenInOrder ts → AreTakenInOrder us → ((t : Taken) → IsAmong ts t → IsAmong us t)
    → ((t : Taken) → IsAmong us t → IsAmong ts t)
    → ts ≡ us
orders_same [] [] ot ou there back = refl
orders_same [] (u ∷ us) ot ou there back = absurd (back u (inl refl))
orders_same (t ∷ ts) [] ot ou there back = absurd (there t (inl refl))
orders_same (t ∷ ts) (u ∷ us) ot ou there back =
    let e : t ≡ u = prefixes t u ts us ot ou (there t (inl refl)) (back u (inl refl)) in
    let more : ts ≡ us = orders_same ts us ot.1 ou.1
    (λ x h. after_prefix_is t u x ts us ot e h (there x (inr h)))
    (λ x h. after_prefix_is u t x us ts ou (sym e) h (back x (inr h))) in
    λ i. e i ∷ more i

all_there : (up : Bool) (ss : List HeadPosition) (ts us : List Taken)
    → AreTaken up ss ts → AreTaken up ss us → (t : Taken) → IsAmong ts t → IsAmong us t
all_there up ss ts us a b t among =
    let h = of_each (IsHead up ss) ts t a.only among in subst (IsAmong us) h.2 (b.all t.place h.0 h.1)

pub one_order : (up : Bool) (ss : List HeadPosition) (ts us : List Taken)
    → AreTaken up ss ts → AreTaken up ss us → ts ≡ us
one_order up ss ts us a b = orders_same ts us a.order b.order (all_there up ss ts us a b) (all_there up ss us ts b a)

-- heads that are taken are at distinct places
same_place : (up : Bool) (ss : List HeadPosition) (t u : Taken)
    → IsHead up ss t → IsHead up ss u → t.place ≡ u.place → t ≡ u
same_place up ss t u p q e =
    let s : Some p.0 ≡ Some q.0 = sym p.1 ∙ ap (λ n. slice_get ss n) e ∙ q.1 in
    let g : p.0 ≡ q.0 = grind (arith, s) in
    sym p.2 ∙ (λ i. head_at up (e i) (g i)) ∙ q.2

abbrev pub Apart : List Taken → Type 0
Apart [] = Unit {0}
Apart (t ∷ ts) = AllByRecursion (λ u. u.place ≡ t.place → ⊥) ts × Apart ts

apart_from : (up : Bool) (ss : List HeadPosition) (t : Taken) (ts : List Taken)
    → IsHead up ss t → AllByRecursion (IsHead up ss) ts → AllByRecursion (IsBefore t) ts
    → AllByRecursion (λ u. u.place ≡ t.place → ⊥) ts
apart_from up ss t [] is are before = tt {0}
apart_from up ss t (u ∷ us) is are before = (
  λ e. not_itself u (subst (λ x. IsBefore x u) (same_place up ss t u is are.0 (sym e)) before.0),
  apart_from up ss t us is are.1 before.1,
)

all_apart : (up : Bool) (ss : List HeadPosition) (ts : List Taken)
    → AreTakenInOrder ts → AllByRecursion (IsHead up ss) ts → Apart ts
all_apart up ss [] order are = tt {0}
all_apart up ss (t ∷ ts) order are = (apart_from up ss t ts are.0 are.1 order.0, all_apart up ss ts order.1 are.1)

pub are_apart : (up : Bool) (ss : List HeadPosition) (ts : List Taken) → AreTaken up ss ts → Apart ts
are_apart up ss ts a = all_apart up ss ts a.order a.only
