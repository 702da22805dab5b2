-- The order of column keys: no key is below itself, of two keys at most one is below the other, and the order is
-- transitive.
use Rattle.std.proofs.{Common.{◌≡◌, ℕ, ◌<◌, Bool, true, false, nat_lt, refl, arith}, lemmas.Bool.Decides.nat_tests}
use Rattle.mus_onsets.specs.declared.keys.ColumnKey.{ColumnKey}
use Rattle.mus_onsets.specs.Order.{is_below, class_number, is_below_or_tied}

pub not_itself : (k : ColumnKey) → is_below k k ≡ false
unfolding is_below
not_itself k = grind (arith, nat_tests)

pub not_both : (k l : ColumnKey) → is_below k l ≡ true → is_below l k ≡ false
unfolding is_below
not_both k l h = grind (arith, nat_tests)

pub lower : (k l : ColumnKey) → k.measure < l.measure → is_below k l ≡ true
unfolding is_below
lower k l h = grind (arith, nat_tests)

then_through : (a b c : ℕ) (p q r : Bool)
    → (p ≡ true → q ≡ true → r ≡ true) → is_below_or_tied a b p ≡ true → is_below_or_tied b c q ≡ true
    → is_below_or_tied a c r ≡ true
then_through a b c p q true f h k = grind (arith, nat_tests)
then_through a b c true true false f h k = absurd (false_not_true (f refl refl))
  where
    false_not_true : false ≡ true → ⊥
    false_not_true h = cc
then_through a b c true false false f h k = grind (arith, nat_tests)
then_through a b c false q false f h k = grind (arith, nat_tests)

place_through : (a b c : ℕ) → nat_lt a b ≡ true → nat_lt b c ≡ true → nat_lt a c ≡ true
place_through a b c h k = grind (arith, nat_tests)

pub below_through : (k l m : ColumnKey) → is_below k l ≡ true → is_below l m ≡ true → is_below k m ≡ true
unfolding is_below
below_through k l m =
    then_through k.measure l.measure m.measure _ _ _
    (then_through k.tick l.tick m.tick _ _ _
    (then_through (class_number k.class) (class_number l.class) (class_number m.class) _ _ _
    (place_through k.place l.place m.place)))
