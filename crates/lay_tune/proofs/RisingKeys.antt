-- Every list of column keys has a rising list of the same keys.
use Rattle.std.proofs.Common.{◌≡◌, ◌∙◌, ℕ, inl, inr, Bool, true, false, nat_lt, List, [], ◌∷◌, refl, sym, ap, subst}
use Rattle.std.proofs.Common.{arith}
use Rattle.std.proofs.lemmas.Bool.Decides.{nat_tests}
use Rattle.std.specs.List.{Contains}
use Rattle.mus_onsets.specs.declared.keys.Class.{Class}
use Rattle.mus_onsets.specs.declared.keys.ColumnKey.{ColumnKey}
use Rattle.mus_onsets.specs.Keys.{AreKeys, key_at}
use Rattle.mus_onsets.specs.Order.{BelowAll, Rises, class_number, is_below, is_below_or_tied}
use Rattle.mus_onsets.proofs.Orders.{below_through}
use Rattle.mus_marks.proofs.{Inside.there, OneList.below_in, OneList.first_or}

-- ---- the order of keys
neither_first : (a b : ℕ) (p q : Bool)
    → is_below_or_tied a b p ≡ false → is_below_or_tied b a q ≡ false → (a ≡ b) × (p ≡ false) × (q ≡ false)
neither_first a b true true h k = absurd (grind (arith, nat_tests))
neither_first a b true false h k = absurd (grind (arith, nat_tests))
neither_first a b false true h k = absurd (grind (arith, nat_tests))
neither_first a b false false h k = (grind (arith, nat_tests), refl, refl)

neither_place : (a b : ℕ) → nat_lt a b ≡ false → nat_lt b a ≡ false → a ≡ b
neither_place a b h k = grind (arith, nat_tests)

same_class : (k l : Class) → class_number k ≡ class_number l → k ≡ l
same_class k l h = grind (arith, nat_tests)

same_key : (m n t u : ℕ) (c d : Class) (p q : ℕ) → m ≡ n → t ≡ u → c ≡ d → p ≡ q → key_at m t c p ≡ key_at n u d q
same_key m n t u c d p q e f g h =
    ap (λ x. key_at x t c p) e
    ∙ (ap (λ x. key_at n x c p) f ∙ (ap (λ x. key_at n u x p) g ∙ ap (λ x. key_at n u d x) h))

neither_below : (k l : ColumnKey) → is_below k l ≡ false → is_below l k ≡ false → k ≡ l
unfolding is_below
neither_below k l h g =
    let measures = neither_first k.measure l.measure _ _ h g in
    let ticks = neither_first k.tick l.tick _ _ measures.1 measures.2 in
    let classes = neither_first (class_number k.class) (class_number l.class) _ _ ticks.1 ticks.2 in
    same_key k.measure l.measure k.tick l.tick k.class l.class k.place l.place
    measures.0 ticks.0 (same_class k.class l.class classes.0) (neither_place k.place l.place classes.1 classes.2)

-- ---- keys in a list
first : (x y : ColumnKey) (ys : List ColumnKey) → y ≡ x → Contains (y ∷ ys) x
first x y ys e = (0, omega arith, e)

below_each : (k : ColumnKey) (ls : List ColumnKey)
    → ((l : ColumnKey) → Contains ls l → is_below k l ≡ true) → BelowAll k ls
below_each k [] each = tt
below_each k (l ∷ ls) each = (each l (first l l ls refl), below_each k ls (λ m has. each m (there m l ls has)))

-- ---- one more key, put in its place
below_further : (k l : ColumnKey) (ls : List ColumnKey) → is_below k l ≡ true → BelowAll l ls → BelowAll k ls
below_further k l ls h below = below_each k ls (λ m has. below_through k l m h (below_in l m ls below has))

themselves : (keys : List ColumnKey) → Rises keys → AreKeys keys keys
themselves keys rise = record { rise = rise; all = λ k has. has; only = λ k has. has }

-- the key is in the list
twice : (k l : ColumnKey) (ls : List ColumnKey) → k ≡ l → Rises (l ∷ ls) → AreKeys (l ∷ ls) (k ∷ l ∷ ls)
twice k l ls e rise = record {
  rise = rise;
  all = λ x has. elim (first_or x k (l ∷ ls) has) [ inl f ↦ first x l ls (sym e ∙ f) | inr more ↦ more ];
  only = λ x has. there x k (l ∷ ls) has;
}

-- the key is put into the list after the first
put_after : (k l : ColumnKey) (ls keys : List ColumnKey)
    → is_below l k ≡ true → BelowAll l ls → AreKeys keys (k ∷ ls) → AreKeys (l ∷ keys) (k ∷ l ∷ ls)
put_after k l ls keys h below are = record {
  rise = (
    below_each l keys (λ x has. elim (first_or x k ls (are.only x has)) [
      | inl e ↦ subst (λ y. is_below l y ≡ true) e h
      | inr more ↦ below_in l x ls below more
    ]),
    are.rise,
  );
  all = λ x has. elim (first_or x k (l ∷ ls) has) [
    | inl e ↦ there x l keys (are.all x (first x k ls e))
    | inr more ↦ elim (first_or x l ls more) [
      | inl e ↦ first x l keys e
      | inr rest ↦ there x l keys (are.all x (there x k ls rest))
    ]
  ];
  only = λ x has. elim (first_or x l keys has) [
    | inl e ↦ there x k (l ∷ ls) (first x l ls e)
    | inr more ↦ elim (first_or x k ls (are.only x more)) [
      | inl e ↦ first x k (l ∷ ls) e
      | inr rest ↦ there x k (l ∷ ls) (there x l ls rest)
    ]
  ];
}

put : (k : ColumnKey) (ls : List ColumnKey) → Rises ls → (keys : List ColumnKey) × AreKeys keys (k ∷ ls)
put k [] rise = (k ∷ [], themselves (k ∷ []) (tt, tt))
put k (l ∷ ls) rise = at (is_below k l) refl (is_below l k) refl (put k ls rise.1)
  where
    at : (s : Bool) → is_below k l ≡ s → (t : Bool) → is_below l k ≡ t → (keys : List ColumnKey) × AreKeys keys (k ∷ ls)
        → (keys : List ColumnKey) × AreKeys keys (k ∷ l ∷ ls)
    at true e t f more = (k ∷ l ∷ ls, themselves (k ∷ l ∷ ls) ((e, below_further k l ls e rise.0), rise))
    at false e true f more = (l ∷ more.0, put_after k l ls more.0 f rise.0 more.1)
    at false e false f more = (l ∷ ls, twice k l ls (neither_below k l e f) rise)

one_more : (k : ColumnKey) (called keys more : List ColumnKey)
    → AreKeys keys called → AreKeys more (k ∷ keys) → AreKeys more (k ∷ called)
one_more k called keys more are with_it = record {
  rise = with_it.rise;
  all =
      λ x has. elim (first_or x k called has) [
        | inl e ↦ with_it.all x (first x k keys e)
        | inr rest ↦ with_it.all x (there x k keys (are.all x rest))
      ];
  only =
      λ x has. elim (first_or x k keys (with_it.only x has)) [
        | inl e ↦ first x k called e
        | inr rest ↦ there x k called (are.only x rest)
      ];
}

-- every list of keys has a rising list of the same keys
pub have_keys : (called : List ColumnKey) → (keys : List ColumnKey) × AreKeys keys called
have_keys [] = ([], themselves [] tt)
have_keys (k ∷ called) =
    let most = have_keys called in
    let all = put k most.0 most.1.rise in
    (all.0, one_more k called most.0 all.0 most.1 all.1)
