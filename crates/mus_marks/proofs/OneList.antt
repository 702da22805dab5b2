-- A rising list has its keys once and in order: exactly one list has the keys of a system.
use Rattle.std.proofs.Common.{◌≡◌, ◌∙◌, zero, suc, ◌⊎◌, inl, inr, true, List, [], ◌∷◌, refl, sym, ap, subst, arith}
use Rattle.std.proofs.lemmas.Bool.Decides.{nat_tests}
use Rattle.std.specs.List.{Contains}
use Rattle.mus_onsets.specs.declared.keys.ColumnKey.{ColumnKey}
use Rattle.mus_onsets.specs.Keys.{AreKeys}
use Rattle.mus_onsets.specs.Order.{BelowAll, is_below, Rises}
use Rattle.mus_marks.proofs.Inside.{here, none_there, there}

not_both : (k l : ColumnKey) → is_below k l ≡ true → is_below l k ≡ true → ⊥
unfolding is_below
not_both k l h g = grind (arith, nat_tests)

pub below_in : (k l : ColumnKey) (ls : List ColumnKey) → BelowAll k ls → Contains ls l → is_below k l ≡ true
below_in k l [] below (i, inside, is) = absurd (omega (arith, inside))
below_in k l (m ∷ ls) below (zero, inside, is) = subst (λ x. is_below k x ≡ true) is below.0
below_in k l (m ∷ ls) below (suc i, inside, is) = below_in k l ls below.1 (i, omega (arith, inside), is)

pub first_or : (x y : ColumnKey) (ys : List ColumnKey) → Contains (y ∷ ys) x → (y ≡ x) ⊎ Contains ys x
first_or x y ys (zero, inside, is) = inl is
first_or x y ys (suc i, inside, is) = inr (i, omega (arith, inside), is)

heads_same : (x y : ColumnKey) (xs ys : List ColumnKey)
    → BelowAll x xs → BelowAll y ys → (y ≡ x) ⊎ Contains ys x → (x ≡ y) ⊎ Contains xs y → x ≡ y
heads_same x y xs ys bx by (inl e) h = sym e
heads_same x y xs ys bx by (inr g) (inl e) = e
heads_same x y xs ys bx by (inr g) (inr h) = absurd (not_both x y (below_in x y xs bx h) (below_in y x ys by g))

following : (x y : ColumnKey) (xs ys : List ColumnKey)
    → x ≡ y → BelowAll x xs
    → ((k : ColumnKey) → Contains (x ∷ xs) k → Contains (y ∷ ys) k)
    → (k : ColumnKey) → Contains xs k
    → Contains ys k
following x y xs ys e below all k h = by (first_or k y ys (all k (there k x xs h)))
  where
    by : (y ≡ k) ⊎ Contains ys k → Contains ys k
    by (inl f) =
        let b = below_in x k xs below h in
        let b' = subst (λ z. is_below z k ≡ true) (e ∙ f) b in
        absurd (not_both k k b' b')
    by (inr g) = g

pub unique : (xs ys : List ColumnKey)
    → Rises xs → Rises ys → ((k : ColumnKey) → Contains xs k → Contains ys k)
    → ((k : ColumnKey) → Contains ys k → Contains xs k)
    → xs ≡ ys
unique [] [] rx ry all only = refl
unique [] (y ∷ ys) rx ry all only = absurd (none_there y (only y (here y ys)))
unique (x ∷ xs) [] rx ry all only = absurd (none_there x (all x (here x xs)))
unique (x ∷ xs) (y ∷ ys) rx ry all only =
    let e =
    heads_same x y xs ys rx.0 ry.0 (first_or x y ys (all x (here x xs))) (first_or y x xs (only y (here y ys))) in
    let more = unique xs ys rx.1 ry.1 (following x y xs ys e rx.0 all) (following y x ys xs (sym e) ry.0 only) in
    ap (λ z. z ∷ xs) e ∙ ap (λ t. y ∷ t) more

pub same_keys : (xs ys called : List ColumnKey) → AreKeys xs called → AreKeys ys called → xs ≡ ys
same_keys xs ys called h g = unique xs ys h.rise g.rise (λ k i. g.all k (h.only k i)) (λ k i. h.all k (g.only k i))
