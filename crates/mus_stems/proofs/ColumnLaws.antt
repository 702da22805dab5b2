-- Accidentals are in their columns, and this determines their places.
use Rattle.std.proofs.Common.{◌≡◌, ℕ, ◌+◌, ◌<◌, ℤ, Bool, true, false, cond, if◌then◌else◌, List, [], ◌∷◌, length}
use Rattle.std.proofs.Common.{replicate, refl, sym, ◌∙◌, subst, Option, Some, None, length-set, get_or-set_same}
use Rattle.std.proofs.Common.{get_or-set_other}
use Rattle.std.proofs.lemmas.List.{get_or-replicate, length-replicate}
use Rattle.std.specs.Prelude.{slice_set, slice_index_or}
use Rattle.std.specs.List.{AllByRecursion}
use Rattle.mus_stems.specs.declared.heads.HeadPosition.{HeadPosition}
use Rattle.mus_stems.specs.Heads.{AllNear, Taken, taken}
use Rattle.mus_stems.specs.Signs.{sign_dx, signs_along, signs_from}
use Rattle.mus_stems.specs.Order.{IsHead}
use Rattle.mus_stems.specs.Columns.{sign_of_head, sign_where, SignedAfter, AreInColumns}
use Rattle.mus_stems.proofs.OrderLaws.{Apart, are_apart, taken_are, one_order}
use Rattle.mus_stems.proofs.DisplacedLaws.{head_within, same_lists}

either_get : (b : Bool) (xs ys : List (Option ℤ)) (p : ℕ) (z : Option ℤ)
    → slice_index_or xs p None ≡ z → slice_index_or ys p None ≡ z → slice_index_or (cond b xs ys) p None ≡ z
either_get true xs ys p z e f = e
either_get false xs ys p z e f = f

others_stay : (first : ℤ) (k : ℕ) (ts : List Taken) (xs : List (Option ℤ)) (p : ℕ)
    → AllByRecursion (λ t. t.place ≡ p → ⊥) ts
    → slice_index_or (signs_along first k ts xs) p None ≡ slice_index_or xs p None
others_stay first k [] xs p apart = refl
others_stay first k (t ∷ ts) xs p apart =
    either_get t.signed (signs_along first (k + 1) ts (slice_set xs t.place (Some (sign_dx first k))))
    (signs_along first k ts xs) p (slice_index_or xs p None)
    (others_stay first (k + 1) ts (slice_set xs t.place (Some (sign_dx first k))) p apart.1
    ∙ get_or-set_other xs t.place p (Some (sign_dx first k)) None (λ e. apart.0 (sym e)))
    (others_stay first k ts xs p apart.1)

Free : List (Option ℤ) → Taken → Type 0
Free xs t = (t.place < length xs) × (sign_of_head xs t ≡ None)

still_free : (xs : List (Option ℤ)) (t : Taken) (z : Option ℤ) (ts : List Taken)
    → AllByRecursion (λ u. u.place ≡ t.place → ⊥) ts → AllByRecursion (Free xs) ts
    → AllByRecursion (Free (slice_set xs t.place z)) ts
unfolding Free
still_free xs t z [] apart free = tt {0}
still_free xs t z (u ∷ us) apart free = (
  (
    subst (λ n. u.place < n) (sym (length-set xs t.place z)) free.0.0,
    get_or-set_other xs t.place u.place z None apart.0 ∙ free.0.1,
  ),
  still_free xs t z us apart.1 free.1,
)

signed : (first : ℤ) (k : ℕ) (ts : List Taken) (xs : List (Option ℤ))
    → Apart ts → AllByRecursion (Free xs) ts → SignedAfter first (signs_along first k ts xs) k ts
unfolding Free
signed first k [] xs apart free = tt {0}
signed first k (t ∷ ts) xs apart free =
    step t.signed
    (signed first (k + 1) ts (slice_set xs t.place (Some (sign_dx first k))) apart.1
    (still_free xs t (Some (sign_dx first k)) ts apart.0 free.1))
    (signed first k ts xs apart.1 free.1)
  where
    step : (g : Bool) →
        SignedAfter first (signs_along first (k + 1) ts (slice_set xs t.place (Some (sign_dx first k)))) (k + 1) ts →
        SignedAfter first (signs_along first k ts xs) k ts →
        (sign_of_head
        (cond g (signs_along first (k + 1) ts (slice_set xs t.place (Some (sign_dx first k))))
        (signs_along first k ts xs))
        t
        ≡ sign_where first k g)
        × SignedAfter first
        (cond g (signs_along first (k + 1) ts (slice_set xs t.place (Some (sign_dx first k))))
        (signs_along first k ts xs))
        (cond g (k + 1) k) ts
    step true h h' = (
      others_stay first (k + 1) ts (slice_set xs t.place (Some (sign_dx first k))) t.place apart.0
          ∙ get_or-set_same xs t.place (Some (sign_dx first k)) None free.0.0,
      h,
    )
    step false h h' = (others_stay first k ts xs t.place apart.0 ∙ free.0.1, h')

all_free : (ss : List HeadPosition) (ts : List Taken)
    → AllByRecursion (IsHead false ss) ts → AllByRecursion (Free (replicate (length ss) None)) ts
unfolding Free
all_free ss [] are = tt {0}
all_free ss (t ∷ ts) are =
    let h = head_within false ss t are.0 in (
      (
        subst (λ n. t.place < n) (sym (length-replicate (length ss) None)) h,
        get_or-replicate (length ss) t.place None None h,
      ),
      all_free ss ts are.1,
    )

lengths_stay : (first : ℤ) (k : ℕ) (ts : List Taken) (xs : List (Option ℤ))
    → length (signs_along first k ts xs) ≡ length xs
lengths_stay first k [] xs = refl
lengths_stay first k (t ∷ ts) xs =
    step t.signed
    (lengths_stay first (k + 1) ts (slice_set xs t.place (Some (sign_dx first k)))
    ∙ length-set xs t.place (Some (sign_dx first k)))
    (lengths_stay first k ts xs)
  where
    step : (g : Bool)
        → length (signs_along first (k + 1) ts (slice_set xs t.place (Some (sign_dx first k)))) ≡ length xs
        → length (signs_along first k ts xs) ≡ length xs
        → length
        (cond g (signs_along first (k + 1) ts (slice_set xs t.place (Some (sign_dx first k))))
        (signs_along first k ts xs))
        ≡ length xs
    step true e f = e
    step false e f = f

pub signs_in_columns : (first : ℤ) (ss : List HeadPosition) → AllNear ss → AreInColumns first ss (signs_from first ss)
unfolding signs_from
signs_in_columns first ss near =
    let a = taken_are false ss near in
    record {
      each = lengths_stay first 0 (taken false ss) (replicate (length ss) None) ∙ length-replicate (length ss) None;
      order = taken false ss;
      taken = a;
      signed =
          signed first 0 (taken false ss) (replicate (length ss) None) (are_apart false ss (taken false ss) a)
          (all_free ss (taken false ss) a.only);
    }

-- one column for each accidental
same_all : (first : ℤ) (xs ys : List (Option ℤ)) (k : ℕ) (ts : List Taken)
    → SignedAfter first xs k ts → SignedAfter first ys k ts
    → AllByRecursion (λ t. sign_of_head xs t ≡ sign_of_head ys t) ts
same_all first xs ys k [] p q = tt {0}
same_all first xs ys k (t ∷ ts) p q = (p.0 ∙ sym q.0, same_all first xs ys (if t.signed then k + 1 else k) ts p.1 q.1)

pub one_column : (first : ℤ) (ss : List HeadPosition) (xs ys : List (Option ℤ))
    → AreInColumns first ss xs → AreInColumns first ss ys → xs ≡ ys
one_column first ss xs ys p q =
    let same = one_order false ss p.order q.order p.taken q.taken in
    same_lists false ss p.order None xs ys p.taken p.each q.each
    (same_all first xs ys 0 p.order p.signed (subst (SignedAfter first ys 0) (sym same) q.signed))
