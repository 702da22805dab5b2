-- Groups of a list: their number, and that none has more than the whole list.
use Rattle.std.proofs.Common.{◌≡◌, ◌∙◌, ℕ, suc, ◌≤◌, Bool, true, false, not, cond, if◌then◌else◌, List, [], ◌∷◌, length}
use Rattle.std.proofs.Common.{refl, sym, ap, subst, arith}
use Rattle.std.proofs.lemmas.List.Sums.{count_by-le-length, length-filter, sum_by-append}
use Rattle.std.specs.List.{AllByRecursion, filter, flat_map, sum_by}
use Rattle.{mus_score.specs.Seats.{grouped, put_before}, mus_marks.proofs.Groups.{grouped_prefix, grouped_whole}}

module _ {A : Type 0} (joins : A → Bool) where
  -- there is a group for the first element, and one for each other that doesn't join the one before it
  count_before : (x y : A) (groups : List (List A)) (first : List A) (more : List (List A))
      → groups ≡ (y ∷ first) ∷ more
      → length (put_before joins x groups) ≡ (if joins y then length groups else suc (length groups))
  count_before x y groups first more e =
      ap (λ gs. length (put_before joins x gs)) e
      ∙ by (joins y)
      ∙ ap (λ gs. if joins y then length gs else suc (length gs)) (sym e)
    where
      by : (c : Bool)
          → length (if c then (x ∷ y ∷ first) ∷ more else (x ∷ []) ∷ (y ∷ first) ∷ more)
          ≡ (if c then length ((y ∷ first) ∷ more) else suc (length ((y ∷ first) ∷ more)))
      by true = refl
      by false = refl

  pub count_grouped : (x : A) (xs : List A)
      → length (grouped joins (x ∷ xs)) ≡ suc (length (filter (λ y. not (joins y)) xs))
  count_grouped x [] = refl
  count_grouped x (y ∷ ys) =
      count_before x y (grouped joins (y ∷ ys)) _ _ (grouped_prefix joins y ys) ∙ by (joins y) (count_grouped y ys)
    where
      by : (c : Bool) → length (grouped joins (y ∷ ys)) ≡ suc (length (filter (λ y. not (joins y)) ys))
          → (if c then length (grouped joins (y ∷ ys)) else suc (length (grouped joins (y ∷ ys))))
          ≡ suc (length (cond (not c) (y ∷ filter (λ y. not (joins y)) ys) (filter (λ y. not (joins y)) ys)))
      by true e = e
      by false e = ap suc e

  pub few_groups : (xs : List A) → length (grouped joins xs) ≤ length xs
  few_groups [] = omega arith
  few_groups (x ∷ xs) =
      let count = count_grouped x xs in
      let starts = length-filter (λ y. not (joins y)) xs in
      omega (arith, count, starts, count_by-le-length (λ y. not (joins y)) xs)

  -- no group has more than all have
  module _ (f : A → ℕ) where
    each_less : (n : ℕ) (groups : List (List A))
        → sum_by f (flat_map (λ g. g) groups) ≤ n → AllByRecursion (λ g. sum_by f g ≤ n) groups
    each_less n [] h = tt
    each_less n (g ∷ groups) h =
        let both = sum_by-append f g (flat_map (λ g. g) groups) in
        (omega (arith, h, both), each_less n groups (omega (arith, h, both)))

    pub none_more : (xs : List A) → AllByRecursion (λ g. sum_by f g ≤ sum_by f xs) (grouped joins xs)
    none_more xs =
        each_less (sum_by f xs) (grouped joins xs)
        (subst (λ ys. sum_by f ys ≤ sum_by f xs) (sym (grouped_whole joins xs)) (omega arith))
