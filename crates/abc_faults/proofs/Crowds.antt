-- The first place up to which there are too many heads and rests.
use Rattle.mus_score.specs.Limits.{head_limit}
use Rattle.std.proofs.Common.{◌≡◌, ◌∙◌, refl, sym, ap, subst, ℕ, ◌+◌, ◌<◌, ◌≤◌, List, [], ◌∷◌, ◌++◌, length, drop, take}
use Rattle.std.proofs.Common.{get_or, Bool, true, false, cond, Option, Some, None, ⊎_elim, arith}
use Rattle.std.proofs.lemmas.List.{drop_more, take_all, take-append-drop}
use Rattle.std.proofs.lemmas.List.Sums.{sum_by-cons, sum_by-append, sum_by-le-sum_by}
use Rattle.std.proofs.lemmas.List.Sorted.{Contains-permutation, sum_by-IsPermutation, IsPermutation-sym}
use Rattle.std.proofs.lemmas.List.Elements.{Contains-append_right, Contains-append_cases, All-nil, All-cons}
use Rattle.std.proofs.lemmas.List.Elements.{All-contains}
use Rattle.std.proofs.lemmas.Bool.Decides.{nat_tests}
use Rattle.std.specs.Prelude.{nat_lt, sum_by, flat_map}
use Rattle.std.specs.List.{AllByRecursion, Contains}
use Rattle.std.specs.List.Sorted.{IsPermutation}
use Rattle.abc_lines.specs.declared.fault.Fault.{Fault}
use Rattle.abc_faults.specs.declared.weights.Weight.{Weight}
use Rattle.abc_faults.specs.First.{is_below_or_tied, is_before, IsLeastFault, IsFirstInOrder}
use Rattle.abc_faults.specs.Weights.{stands_before, IsAfter, AreInOrder, count_up_to, crowd_up_to, crowd_fault}
use Rattle.abc_faults.specs.Weights.{crowd_faults_at, crowded}

-- ---- the order of places
abbrev below : ℕ → ℕ → ℕ → ℕ → Bool
below a b x y = is_below_or_tied a x (nat_lt b y)

below_not_below : (a b x y m n : ℕ) → below a b x y ≡ true → below m n x y ≡ false → below a b m n ≡ true
below_not_below a b x y m n h i = grind (arith, nat_tests)

-- v comes before w, and u does not
before_after : (u v w : Weight) → stands_before v w ≡ true → stands_before u w ≡ false → stands_before v u ≡ true
unfolding stands_before
before_after u v w h i = below_not_below v.line v.column w.line w.column u.line u.column h i

no_kind_before : (a b x y k : ℕ) → is_below_or_tied a x (is_below_or_tied b y (nat_lt k k)) ≡ below a b x y
no_kind_before a b x y k = grind (arith, nat_tests)

pub same_order : (v w : Weight) → is_before (crowd_fault v) (crowd_fault w) ≡ stands_before v w
unfolding is_before stands_before
same_order v w = no_kind_before v.line v.column w.line w.column 18

itself : (a b : ℕ) → below a b a b ≡ false
itself a b = grind (arith, nat_tests)

pub not_before_itself : (w : Weight) → stands_before w w ≡ false
unfolding stands_before
not_before_itself w = itself w.line w.column

-- ---- counts
abbrev count : Weight → ℕ
count w = w.count

up_to-le : (w v : Weight) → count_up_to w v ≤ count v
up_to-le w v = by_test (stands_before w v) where
  by_test : (b : Bool) → cond b 0 v.count ≤ v.count
  by_test true = omega arith
  by_test false = omega arith

crowd-le : (ws : List Weight) (w : Weight) → crowd_up_to ws w ≤ sum_by count ws
crowd-le ws w = sum_by-le-sum_by (count_up_to w) count ws (up_to-le w)

-- nothing counts if all come after
pub none_up_to : (w : Weight) (vs : List Weight)
    → AllByRecursion (λ v. stands_before w v ≡ true) vs → crowd_up_to vs w ≡ 0
none_up_to w [] h = refl
none_up_to w (v ∷ vs) h =
    let here : count_up_to w v ≡ 0 = simp h.0 in
    sum_by-cons (count_up_to w) v vs ∙ omega (arith, here, none_up_to w vs h.1)

-- all weights before a weight in the order of the text count
all_up_to : (prefix : List Weight) (w : Weight) (following : List Weight)
    → AreInOrder (prefix ++ w ∷ following) → crowd_up_to prefix w ≡ sum_by count prefix
all_up_to [] w following h = refl
all_up_to (v ∷ prefix) w following h =
    let here : count_up_to w v ≡ v.count = simp (there prefix h.0) in
    let a = sum_by-cons (count_up_to w) v prefix in
    let b = sum_by-cons count v prefix in
    let rest = all_up_to prefix w following h.1 in
    cc where
      there : (xs : List Weight) → AllByRecursion (IsAfter v) (xs ++ w ∷ following) → stands_before w v ≡ false
      there [] all = all.0
      there (x ∷ xs) all = there xs all.1

after_in_order : (prefix : List Weight) (w : Weight) (following : List Weight)
    → AreInOrder (prefix ++ w ∷ following) → AllByRecursion (IsAfter w) following
after_in_order [] w following h = h.0
after_in_order (v ∷ prefix) w following h = after_in_order prefix w following h.1

pub before_all : (v w : Weight) (us : List Weight)
    → stands_before v w ≡ true → AllByRecursion (IsAfter w) us → AllByRecursion (λ u. stands_before v u ≡ true) us
before_all v w [] h all = tt
before_all v w (u ∷ us) h all = (before_after u v w h all.0, before_all v w us h all.1)

-- what is at places before a weight's place is counted before it
crowd_before : (prefix : List Weight) (w : Weight) (following : List Weight) (v : Weight)
    → AreInOrder (prefix ++ w ∷ following) → stands_before v w ≡ true
    → crowd_up_to (prefix ++ w ∷ following) v ≤ sum_by count prefix
crowd_before prefix w following v order h =
    let parts = sum_by-append (count_up_to v) prefix (w ∷ following) in
    let none : crowd_up_to (w ∷ following) v ≡ 0 =
    none_up_to v (w ∷ following) (h, before_all v w following h (after_in_order prefix w following order)) in
    omega (arith, parts, none, crowd-le prefix v)

-- a weight and all weights before it count
crowd_at : (prefix : List Weight) (w : Weight) (following : List Weight)
    → AreInOrder (prefix ++ w ∷ following) → sum_by count prefix + w.count ≤ crowd_up_to (prefix ++ w ∷ following) w
crowd_at prefix w following order =
    let parts = sum_by-append (count_up_to w) prefix (w ∷ following) in
    let own = sum_by-cons (count_up_to w) w following in
    let here : count_up_to w w ≡ w.count = simp (not_before_itself w) in
    omega (arith, parts, own, here, all_up_to prefix w following order)

-- ---- the faults
abbrev IsCrowded : List Weight → Weight → Type 0
IsCrowded ws w = head_limit < crowd_up_to ws w

crowded_is : (ws : List Weight) (w : Weight) → IsCrowded ws w → crowd_faults_at ws w ≡ crowd_fault w ∷ []
crowded_is ws w h = let test : nat_lt head_limit (crowd_up_to ws w) ≡ true = grind (arith, nat_tests) in simp test

not_crowded_is : (ws : List Weight) (w : Weight) → crowd_up_to ws w ≤ head_limit → crowd_faults_at ws w ≡ []
not_crowded_is ws w h = let test : nat_lt head_limit (crowd_up_to ws w) ≡ false = grind (arith, nat_tests) in simp test

at_head : (f : Fault) (fs : List Fault) → Contains (f ∷ fs) f
at_head f fs = (0, omega arith, refl)

none_held : (f : Fault) → Contains [] f → ⊥
none_held f h = absurd (omega (arith, h.1))

is_alone : (f g : Fault) → Contains (f ∷ []) g → g ≡ f
is_alone f g h = let P : Fault → Type 0 = λ x. x ≡ f in All-contains P (f ∷ []) g (All-cons P f [] refl (All-nil P)) h

in_flat : (fs : Weight → List Fault) (prefix : List Weight) (w : Weight) (following : List Weight) (f : Fault)
    → fs w ≡ f ∷ [] → Contains (flat_map fs (prefix ++ w ∷ following)) f
in_flat fs [] w following f e =
    subst (λ z. Contains (z ++ flat_map fs following) f) (sym e) (at_head f (flat_map fs following))
in_flat fs (v ∷ prefix) w following f e =
    Contains-append_right (fs v) (flat_map fs (prefix ++ w ∷ following)) f (in_flat fs prefix w following f e)

-- the weight of a fault
pub record IsFaultOf (all some : List Weight) (g : Fault) : Type 0 where
  pub weight : Weight
  pub prefix : List Weight
  pub following : List Weight
  pub there : some ≡ prefix ++ weight ∷ following
  pub is : g ≡ crowd_fault weight
  pub crowd : IsCrowded all weight

own_fault : (all : List Weight) (w : Weight) (g : Fault)
    → Contains (crowd_faults_at all w) g → (g ≡ crowd_fault w) × IsCrowded all w
own_fault all w g h = by_test (nat_lt head_limit (crowd_up_to all w)) refl h where
  by_test : (b : Bool) → nat_lt head_limit (crowd_up_to all w) ≡ b → Contains (cond b (crowd_fault w ∷ []) []) g
      → (g ≡ crowd_fault w) × IsCrowded all w
  by_test true e k = (is_alone (crowd_fault w) g k, grind (arith, nat_tests, e))
  by_test false e k = absurd (none_held g k)

pub fault_of : (all some : List Weight) (g : Fault)
    → Contains (flat_map (crowd_faults_at all) some) g → IsFaultOf all some g
fault_of all [] g h = absurd (none_held g h)
fault_of all (w ∷ ws) g h =
    ⊎_elim own (λ k. longer (fault_of all ws g k))
    (Contains-append_cases (crowd_faults_at all w) (flat_map (crowd_faults_at all) ws) g h) where
      own : Contains (crowd_faults_at all w) g → IsFaultOf all (w ∷ ws) g
      own k =
          let o = own_fault all w g k in
          record { weight = w; prefix = []; following = ws; there = refl; is = o.0; crowd = o.1 }

      longer : IsFaultOf all ws g → IsFaultOf all (w ∷ ws) g
      longer o = record {
        weight = o.weight;
        prefix = w ∷ o.prefix;
        following = o.following;
        there = ap (λ z. w ∷ z) o.there;
        is = o.is;
        crowd = o.crowd;
      }

-- too many with a weight in the order of the text, but not before it
first_at : (prefix : List Weight) (w : Weight) (following : List Weight)
    → AreInOrder (prefix ++ w ∷ following) → sum_by count prefix ≤ head_limit
    → head_limit < sum_by count prefix + w.count
    → IsLeastFault (crowded (prefix ++ w ∷ following)) (crowd_fault w)
first_at prefix w following order few many =
    let ws = prefix ++ w ∷ following in
    record {
      held = in_flat (crowd_faults_at ws) prefix w following (crowd_fault w)
          (crowded_is ws w (omega (arith, crowd_at prefix w following order)));
      least = λ g in'. not_earlier g (fault_of ws ws g in');
    } where
      by_test : (v : Weight) (b : Bool)
          → stands_before v w ≡ b → IsCrowded (prefix ++ w ∷ following) v → stands_before v w ≡ false
      by_test v false e crowd = e
      by_test v true e crowd = absurd (omega (arith, crowd_before prefix w following v order e))

      not_earlier : (g : Fault)
          → IsFaultOf (prefix ++ w ∷ following) (prefix ++ w ∷ following) g → is_before g (crowd_fault w) ≡ false
      not_earlier g o =
          ap (λ z. is_before z (crowd_fault w)) o.is
          ∙ same_order o.weight w
          ∙ by_test o.weight (stands_before o.weight w) refl o.crowd

pub found_at : (ws : List Weight) (i left : ℕ) (d : Weight)
    → AreInOrder ws → i < length ws → left + sum_by count (take i ws) ≡ head_limit → left < (get_or ws i d).count
    → IsLeastFault (crowded ws) (crowd_fault (get_or ws i d))
found_at ws i left d order less sum many =
    let w = get_or ws i d in
    let whole : ws ≡ take i ws ++ w ∷ drop (i + 1) ws =
    sym (take-append-drop i ws) ∙ ap (λ z. take i ws ++ z) (drop_more ws i d less) in
    let P : List Weight → Type 0 = λ z. IsLeastFault (crowded z) (crowd_fault w) in
    subst P (sym whole)
    (first_at (take i ws) w (drop (i + 1) ws) (subst AreInOrder whole order) (omega arith) (omega arith))

none_among : (all some : List Weight) → sum_by count all ≤ head_limit → flat_map (crowd_faults_at all) some ≡ []
none_among all [] few = refl
none_among all (w ∷ ws) few =
    let own = not_crowded_is all w (omega (arith, crowd-le all w)) in
    ap (λ z. z ++ flat_map (crowd_faults_at all) ws) own ∙ none_among all ws few

pub none_found : (ws : List Weight) (i left : ℕ)
    → length ws ≤ i → left + sum_by count (take i ws) ≡ head_limit → crowded ws ≡ []
none_found ws i left done sum = none_among ws ws (omega (arith, ap (sum_by count) (take_all i ws done)))

-- ---- the same weights in another order
split_at_held : (ws : List Weight) (w : Weight)
    → Contains ws w → (prefix : List Weight) × ((following : List Weight) × (ws ≡ prefix ++ w ∷ following))
split_at_held ws w h =
    let there : drop h.0 ws ≡ w ∷ drop (h.0 + 1) ws = drop_more ws h.0 w h.1 ∙ ap (λ x. x ∷ drop (h.0 + 1) ws) h.2 in
    (take h.0 ws, (drop (h.0 + 1) ws, sym (take-append-drop h.0 ws) ∙ ap (λ z. take h.0 ws ++ z) there))

pub weight_held : (all some : List Weight) (g : Fault) (o : IsFaultOf all some g) → Contains some o.weight
weight_held all some g o =
    subst (λ z. Contains z o.weight) (sym o.there)
    (Contains-append_right o.prefix (o.weight ∷ o.following) o.weight (0, omega arith, refl))

pub crowd_held : (ws : List Weight) (w : Weight)
    → Contains ws w → IsCrowded ws w → Contains (crowded ws) (crowd_fault w)
crowd_held ws w h crowd =
    let place = split_at_held ws w h in
    let there = in_flat (crowd_faults_at ws) place.0 w place.1.0 (crowd_fault w) (crowded_is ws w crowd) in
    subst (λ z. Contains (flat_map (crowd_faults_at ws) z) (crowd_fault w)) (sym place.1.1) there

held_along : (xs ys : List Weight) (g : Fault) → IsPermutation xs ys → Contains (crowded xs) g → Contains (crowded ys) g
held_along xs ys g same h =
    let o = fault_of xs xs g h in
    let w = o.weight in
    let crowd : IsCrowded ys w = omega (arith, o.crowd, sum_by-IsPermutation (count_up_to w) xs ys same) in
    subst (Contains (crowded ys)) (sym o.is)
    (crowd_held ys w (Contains-permutation xs ys w same (weight_held xs xs g o)) crowd)

empty_too : (fs gs : List Fault) → ((f : Fault) → Contains fs f → Contains gs f) → gs ≡ [] → fs ≡ []
empty_too [] gs h e = refl
empty_too (f ∷ fs) gs h e = absurd (none_held f (subst (λ z. Contains z f) e (h f (at_head f fs))))

pub first_along : (xs ys : List Weight) (found : Option Fault)
    → IsPermutation xs ys → IsFirstInOrder (crowded ys) found → IsFirstInOrder (crowded xs) found
first_along xs ys None same h = empty_too (crowded xs) (crowded ys) (λ f k. held_along xs ys f same k) h
first_along xs ys (Some f) same h = record {
  held = held_along ys xs f (IsPermutation-sym xs ys same) h.held;
  least = λ g k. h.least g (held_along xs ys g same k);
}

-- ---- there is exactly one first
level : (a b x y : ℕ) → below a b x y ≡ false → below x y a b ≡ false → (a ≡ x) × (b ≡ y)
level a b x y h i = (grind (arith, nat_tests), grind (arith, nat_tests))

level_weights : (v w : Weight)
    → stands_before v w ≡ false → stands_before w v ≡ false → (v.line ≡ w.line) × (v.column ≡ w.column)
unfolding stands_before
level_weights v w h i = level v.line v.column w.line w.column h i

one_least : (ws : List Weight) (f g : Fault) → IsLeastFault (crowded ws) f → IsLeastFault (crowded ws) g → f ≡ g
one_least ws f g h i =
    let v = (fault_of ws ws f h.held).weight in
    let w = (fault_of ws ws g i.held).weight in
    let is_f : f ≡ crowd_fault v = (fault_of ws ws f h.held).is in
    let is_g : g ≡ crowd_fault w = (fault_of ws ws g i.held).is in
    let a : stands_before w v ≡ false = sym (same_order w v) ∙ cc (is_f, is_g, h.least g i.held) in
    let b : stands_before v w ≡ false = sym (same_order v w) ∙ cc (is_f, is_g, i.least f h.held) in
    let same = level_weights v w b a in
    is_f
    ∙ ap (λ l. crowd_fault (record { line = l; column = v.column; count = 0 })) same.0
    ∙ ap (λ k. crowd_fault (record { line = w.line; column = k; count = 0 })) same.1
    ∙ sym is_g

pub same_crowd : (ws : List Weight) (a b : Option Fault)
    → IsFirstInOrder (crowded ws) a → IsFirstInOrder (crowded ws) b → a ≡ b
same_crowd ws None None h i = refl
same_crowd ws None (Some g) h i = absurd (none_held g (subst (λ z. Contains z g) h i.held))
same_crowd ws (Some f) None h i = absurd (none_held f (subst (λ z. Contains z f) i h.held))
same_crowd ws (Some f) (Some g) h i = ap (λ x. Some x) (one_least ws f g h i)
