-- Lists in groups: the first of them, what is in all of them, and which element leads each.
use Rattle.std.proofs.Common.{◌≡◌, ◌≤◌, ◌∙◌, ℕ, suc, ◌+◌, ◌-◌, Bool, true, false, cond, List, [], ◌∷◌, ◌++◌, length}
use Rattle.std.proofs.Common.{length-drop, take, drop, get_or, map, refl, sym, ap, append_assoc, arith}
use Rattle.std.proofs.lemmas.List.{drop_more, take_all}
use Rattle.std.specs.List.{AllByRecursion, flat_map, prefix_len}
use Rattle.mus_score.specs.Seats.{grouped, put_before}

one_past : (n : ℕ) → n + 1 ≡ suc n
one_past n = omega arith

one_before : (n : ℕ) → 1 + n ≡ suc n
one_before n = omega arith

-- what is left of a list after its first elements, and after the first alone
pub rest_from : {A : Type 0} (n : ℕ) (xs : List A) → take (length xs - n) (drop n xs) ≡ drop n xs
rest_from n xs = take_all (length xs - n) (drop n xs) (omega (arith, length-drop n xs))

pub prefix_is : {A : Type 0} (xs : List A) (x : A)
    → 1 ≤ length xs → x ≡ get_or xs 0 x → xs ≡ x ∷ take (length xs - 1) (drop 1 xs)
prefix_is xs x some here =
    drop_more xs 0 x (omega (arith, some)) ∙ ap (λ y. y ∷ drop 1 xs) (sym here) ∙ ap (λ t. x ∷ t) (sym (rest_from 1 xs))

module _ {A : Type 0} (joins : A → Bool) where
  pub grouped_prefix : (x : A) (xs : List A)
      → grouped joins (x ∷ xs) ≡ (x ∷ take (prefix_len joins xs) xs) ∷ grouped joins (drop (prefix_len joins xs) xs)
  grouped_prefix x [] = refl
  grouped_prefix x (y ∷ ys) = ap (put_before joins x) (grouped_prefix y ys) ∙ by (joins y) (grouped_prefix y ys)
    where
      by : (b : Bool)
          → grouped joins (y ∷ ys) ≡ (y ∷ take (prefix_len joins ys) ys) ∷ grouped joins (drop (prefix_len joins ys) ys)
          → cond b ((x ∷ y ∷ take (prefix_len joins ys) ys) ∷ grouped joins (drop (prefix_len joins ys) ys))
          ((x ∷ []) ∷ (y ∷ take (prefix_len joins ys) ys) ∷ grouped joins (drop (prefix_len joins ys) ys))
          ≡ (x ∷ take (cond b (1 + prefix_len joins ys) 0) (y ∷ ys))
          ∷ grouped joins (drop (cond b (1 + prefix_len joins ys) 0) (y ∷ ys))
      by true h =
          ap (λ n. (x ∷ take n (y ∷ ys)) ∷ grouped joins (drop n (y ∷ ys))) (sym (one_before (prefix_len joins ys)))
      by false h = ap (λ t. (x ∷ []) ∷ t) (sym h)

  -- one turn of a loop over groups, which adds the result for the first group
  group_step : {B : Type 0} (f : List A → B) (x : A) (more rest group after : List A) (n : ℕ) (out new whole : List B)
      → rest ≡ x ∷ more → n ≡ prefix_len joins more → group ≡ take (n + 1) rest → after ≡ drop (n + 1) rest
      → new ≡ out ++ f group ∷ [] → out ++ map f (grouped joins rest) ≡ whole
      → new ++ map f (grouped joins after) ≡ whole
  group_step f x more rest group after n out new whole e1 e2 e3 e4 e5 so_far =
      let k = prefix_len joins more in
      let g : group ≡ x ∷ take k more = e3 ∙ rw (e1, e2, one_past k) refl in
      let a : after ≡ drop k more = e4 ∙ rw (e1, e2, one_past k) refl in
      rw (e5, g, a)
      (append_assoc out (f (x ∷ take k more) ∷ []) (map f (grouped joins (drop k more)))
      ∙ sym (ap (λ t. out ++ map f t) (ap (grouped joins) e1 ∙ grouped_prefix x more))
      ∙ so_far)

  pub group_turn : {B : Type 0} (f : List A → B) (rest : List A) (n : ℕ) (out new whole : List B)
      → 1 ≤ length rest → n ≡ prefix_len joins (take (length rest - 1) (drop 1 rest))
      → new ≡ out ++ f (take (n + 1) rest) ∷ [] → out ++ map f (grouped joins rest) ≡ whole
      → new ++ map f (grouped joins (take (length rest - (n + 1)) (drop (n + 1) rest))) ≡ whole
  group_turn f [] n out new whole some e1 e2 so_far = absurd (omega (arith, some))
  group_turn f (x ∷ more) n out new whole some e1 e2 so_far =
      group_step f x more (x ∷ more) (take (n + 1) (x ∷ more))
      (take (length (x ∷ more) - (n + 1)) (drop (n + 1) (x ∷ more))) n out new whole refl
      (e1 ∙ ap (prefix_len joins) (rest_from 1 (x ∷ more))) refl (rest_from (n + 1) (x ∷ more)) e2 so_far

  -- together they are the list
  put_whole : (x : A) (gs : List (List A)) → flat_map (λ g. g) (put_before joins x gs) ≡ x ∷ flat_map (λ g. g) gs
  put_whole x [] = refl
  put_whole x ([] ∷ gs) = refl
  put_whole x ((y ∷ ys) ∷ gs) = by (joins y)
    where
      by : (b : Bool)
          → flat_map (λ g. g) (cond b ((x ∷ y ∷ ys) ∷ gs) ((x ∷ []) ∷ (y ∷ ys) ∷ gs))
          ≡ x ∷ y ∷ ys ++ flat_map (λ g. g) gs
      by true = refl
      by false = refl

  pub grouped_whole : (xs : List A) → flat_map (λ g. g) (grouped joins xs) ≡ xs
  grouped_whole [] = refl
  grouped_whole (x ∷ xs) = put_whole x (grouped joins xs) ∙ ap (λ t. x ∷ t) (grouped_whole xs)

  -- what holds of all elements holds of all elements of each group
  put_all : (P : A → Type 0) (x : A) (gs : List (List A))
      → P x → AllByRecursion (AllByRecursion P) gs → AllByRecursion (AllByRecursion P) (put_before joins x gs)
  put_all P x [] p all = ((p, tt), tt)
  put_all P x ([] ∷ gs) p all = ((p, tt), all.1)
  put_all P x ((y ∷ ys) ∷ gs) p all = by (joins y)
    where
      by : (b : Bool) → AllByRecursion (AllByRecursion P) (cond b ((x ∷ y ∷ ys) ∷ gs) ((x ∷ []) ∷ (y ∷ ys) ∷ gs))
      by true = ((p, all.0), all.1)
      by false = ((p, tt), all)

  pub grouped_all : (P : A → Type 0) (xs : List A)
      → AllByRecursion P xs → AllByRecursion (AllByRecursion P) (grouped joins xs)
  grouped_all P [] all = tt
  grouped_all P (x ∷ xs) all = put_all P x (grouped joins xs) all.0 (grouped_all P xs all.1)

-- other elements that join where these do form the same groups
module _ {A B : Type 0} (f : A → B) (joins : A → Bool) (joins_too : B → Bool)
    (same : (x : A) → joins_too (f x) ≡ joins x) where
  put_map : (x : A) (gs : List (List A))
      → put_before joins_too (f x) (map (map f) gs) ≡ map (map f) (put_before joins x gs)
  put_map x [] = refl
  put_map x ([] ∷ gs) = refl
  put_map x ((y ∷ ys) ∷ gs) =
      ap (λ b. cond b ((f x ∷ f y ∷ map f ys) ∷ map (map f) gs) ((f x ∷ []) ∷ (f y ∷ map f ys) ∷ map (map f) gs))
      (same y)
      ∙ by (joins y)
    where
      by : (b : Bool)
          → cond b ((f x ∷ f y ∷ map f ys) ∷ map (map f) gs) ((f x ∷ []) ∷ (f y ∷ map f ys) ∷ map (map f) gs)
          ≡ map (map f) (cond b ((x ∷ y ∷ ys) ∷ gs) ((x ∷ []) ∷ (y ∷ ys) ∷ gs))
      by true = refl
      by false = refl

  pub grouped_map : (xs : List A) → grouped joins_too (map f xs) ≡ map (map f) (grouped joins xs)
  grouped_map [] = refl
  grouped_map (x ∷ xs) = ap (put_before joins_too (f x)) (grouped_map xs) ∙ put_map x (grouped joins xs)
