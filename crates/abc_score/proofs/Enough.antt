-- Enough faults and weights determine the first fault of all.
use Rattle.mus_score.specs.Limits.{head_limit}
use Rattle.std.proofs.{Common.{true, false, Option, Some}, lemmas.List.Sums.sum_by-append, Math.Logic.⊎_map}
use Rattle.std.proofs.Common.{None, ⊎_elim, inl, inr, arith, ◌≡◌, ◌∙◌, refl, sym, ap, subst, List, [], ◌∷◌, ◌++◌}
use Rattle.std.proofs.Common.{append_assoc, append-nil, map, Bool}
use Rattle.std.proofs.lemmas.List.Elements.{Contains-append_left, Contains-append_right, Contains-append_cases}
use Rattle.std.proofs.lemmas.List.Elements.{All-from_recursion, All-contains}
use Rattle.std.specs.{Prelude.{◌<◌, ◌⊎◌}, List.{AllByRecursion, Contains}}
use Rattle.abc_lines.specs.declared.fault.Fault.{Fault}
use Rattle.abc_score.specs.Judged.{HasCrowd, IsWithin, AreEnough, AreJudged}
use Rattle.abc_faults.proofs.Crowds.{IsFaultOf, before_all, crowd_held, fault_of, none_up_to, same_order, weight_held}
use Rattle.abc_faults.proofs.Caps.{capped_append}
use Rattle.abc_faults.proofs.Firsts.{first_append, not_before, not_before_itself}
use Rattle.abc_faults.specs.{First.{earlier, first_of, is_before, IsFirstInOrder}, declared.weights.Weight.Weight}
use Rattle.abc_faults.specs.Weights.{IsAfter, capped, count_up_to, crowd_fault, crowd_up_to, crowded, stands_before}

pub all_enough : (faults : List Fault) (all : List Weight) → AreEnough faults faults all all
all_enough faults all = record {
  held = λ f h. h;
  within = λ w. (λ h. h, omega arith);
  others = λ f h. inl h;
  light = λ w. inl (λ h. h, omega arith);
}

prefix_within : (xs ys : List Weight) (w : Weight) → IsWithin xs (xs ++ ys) w
prefix_within xs ys w = (Contains-append_left xs ys w, omega (arith, sum_by-append (count_up_to w) xs ys))

back_within : (xs ys : List Weight) (w : Weight) → IsWithin ys (xs ++ ys) w
back_within xs ys w = (Contains-append_right xs ys w, omega (arith, sum_by-append (count_up_to w) xs ys))

-- ---- after a crowd
pub enough_after : (some hidden : List Fault) (put light : List Weight) (at : Weight)
    → Contains put at → head_limit < crowd_up_to put at
    → AllByRecursion (λ f. is_before f (crowd_fault at) ≡ false) hidden → AllByRecursion (IsAfter at) light
    → AreEnough some (some ++ hidden) put (put ++ light)
enough_after some hidden put light at held crowd late following = record {
  held = Contains-append_left some hidden;
  within = prefix_within put light;
  others = λ f h. ⊎_map (λ k. k) (λ k. by_crowd f (held_in hidden late f k)) (Contains-append_cases some hidden f h);
  light = λ w. by_test w (stands_before w at) refl;
} where
  by_crowd : (f : Fault) → is_before f (crowd_fault at) ≡ false → HasCrowd put f
  by_crowd f e = record { at = at; held = held; crowd = crowd; following = e }

  held_in : (fs : List Fault)
      → AllByRecursion (λ f. is_before f (crowd_fault at) ≡ false) fs → (f : Fault) → Contains fs f
      → is_before f (crowd_fault at) ≡ false
  held_in fs late f = All-contains (λ f. is_before f (crowd_fault at) ≡ false) fs f (All-from_recursion _ fs late)

  by_test : (w : Weight) (b : Bool)
      → stands_before w at ≡ b → IsWithin (put ++ light) put w ⊎ HasCrowd put (crowd_fault w)
  by_test w false e = inr (by_crowd (crowd_fault w) (same_order w at ∙ e))
  by_test w true e =
      let not = λ (k : Contains light w). All-contains (IsAfter at) light w (All-from_recursion _ light following) k in
      inl (
        λ h.
            ⊎_elim (λ k. k) (λ k. let later : stands_before w at ≡ false = not k in absurd cc)
            (Contains-append_cases put light w h),
        omega (arith, none_up_to w light (before_all w at light e following), sum_by-append (count_up_to w) put light),
      )

-- ---- two parts
held_both : {X : Type 0} (us vs xs ys : List X) (x : X)
    → (Contains us x → Contains xs x) → (Contains vs x → Contains ys x)
    → Contains (us ++ vs) x → Contains (xs ++ ys) x
held_both us vs xs ys x a b h =
    ⊎_elim (λ k. Contains-append_left xs ys x (a k)) (λ k. Contains-append_right xs ys x (b k))
    (Contains-append_cases us vs x h)

within_both : (p q a b : List Weight) (w : Weight) → IsWithin p a w → IsWithin q b w → IsWithin (p ++ q) (a ++ b) w
within_both p q a b w h i = (
  held_both p q a b w h.0 i.0,
  omega (arith, h.1, i.1, sum_by-append (count_up_to w) p q, sum_by-append (count_up_to w) a b),
)

crowd_within : (xs ys : List Weight) (f : Fault) → ((w : Weight) → IsWithin xs ys w) → HasCrowd xs f → HasCrowd ys f
crowd_within xs ys f h c =
    record { at = c.at; held = (h c.at).0 c.held; crowd = omega (arith, c.crowd, (h c.at).1); following = c.following }

enough_both : {s f t g : List Fault} {p a q b : List Weight}
    → AreEnough s f p a → AreEnough t g q b → AreEnough (s ++ t) (f ++ g) (p ++ q) (a ++ b)
enough_both {s = s} {f = f} {t = t} {g = g} {p = p} {a = a} {q = q} {b = b} h i =
    let prefix = λ (x : Fault). crowd_within p (p ++ q) x (prefix_within p q) in
    let back = λ (x : Fault). crowd_within q (p ++ q) x (back_within p q) in
    record {
      held = λ x. held_both s t f g x (h.held x) (i.held x);
      within = λ w. within_both p q a b w (h.within w) (i.within w);
      others = λ x k.
          ⊎_elim (λ j. ⊎_map (Contains-append_left s t x) (prefix x) (h.others x j))
          (λ j. ⊎_map (Contains-append_right s t x) (back x) (i.others x j)) (Contains-append_cases f g x k);
      light = λ w.
          ⊎_elim (λ j. ⊎_map (λ k. within_both a b p q w j k) (back (crowd_fault w)) (i.light w))
          (λ j. inr (prefix (crowd_fault w) j)) (h.light w);
    }

-- ---- judged parts
pub none_judged : (old : List Weight) → AreJudged [] [] None old old
none_judged old =
    record { some = []; weights = []; first = refl; put = sym (append-nil old); enough = all_enough [] [] }

pub judged_both : {f g : List Fault} {a b : List Weight} {found other : Option Fault} {old mid new : List Weight}
    → AreJudged f a found old mid
    → AreJudged g b other mid new → AreJudged (f ++ g) (a ++ b) (earlier found other) old new
judged_both {other = other} {old = old} h i =
    let both = append_assoc old (map capped h.weights) (map capped i.weights)
    ∙ ap (λ z. old ++ z) (sym (capped_append h.weights i.weights)) in
    record {
      some = h.some ++ i.some;
      weights = h.weights ++ i.weights;
      first =
          ap (λ z. earlier z other) h.first
          ∙ (ap (earlier (first_of h.some)) i.first ∙ sym (first_append h.some i.some));
      put = i.put ∙ (ap (λ z. z ++ map capped i.weights) h.put ∙ both);
      enough = enough_both h.enough i.enough;
    }

-- faults without weights
pub judged_with : {f : List Fault} {a : List Weight} {found other : Option Fault} {old new : List Weight}
    (g : List Fault)
    → AreJudged f a found old new
    → other ≡ first_of g → AreJudged (f ++ g) a (earlier found other) old new
judged_with {f = f} {a = a} {found = found} {other = other} {old = old} {new = new} g h is =
    let more : AreJudged g [] other new new =
    record { some = g; weights = []; first = is; put = sym (append-nil new); enough = all_enough g [] } in
    subst (λ z. AreJudged (f ++ g) z (earlier found other) old new) (append-nil a) (judged_both h more)

-- ---- the first of all
module _ {some faults : List Fault} {put all : List Weight} (h : AreEnough some faults put all) where
  covered : (f : Fault) → Contains (faults ++ crowded all) f → Contains some f ⊎ HasCrowd put f
  covered f k =
      ⊎_elim (h.others f) (λ j. by_weight (fault_of all all f j)) (Contains-append_cases faults (crowded all) f k) where
        by_weight : IsFaultOf all all f → Contains some f ⊎ HasCrowd put f
        by_weight o =
            let w = o.weight in
            let itself = not_before_itself (crowd_fault w) in
            let own : IsWithin all put w → HasCrowd put (crowd_fault w) =
            λ l.
            record {
              at = w;
              held = l.0 (weight_held all all f o);
              crowd = omega (arith, o.crowd, l.1);
              following = itself;
            } in
            inr (subst (HasCrowd put) (sym o.is) (⊎_elim own (λ c. c) (h.light w)))

  -- one of the faults found, which the fault is not before
  reported : (f : Fault)
      → Contains some f ⊎ HasCrowd put f → (g : Fault) × (Contains (some ++ crowded put) g × (is_before f g ≡ false))
  reported f (inl j) = (f, (Contains-append_left some (crowded put) f j, not_before_itself f))
  reported f (inr c) = (
    crowd_fault c.at,
    (Contains-append_right some (crowded put) (crowd_fault c.at) (crowd_held put c.at c.held c.crowd), c.following),
  )

  crowd_kept : (f : Fault) → IsFaultOf put put f → Contains (crowded all) f
  crowd_kept f o =
      let within = h.within o.weight in
      subst (Contains (crowded all)) (sym o.is)
      (crowd_held all o.weight (within.0 (weight_held put put f o)) (omega (arith, o.crowd, within.1)))

  none_if : (fs : List Fault) → ((f : Fault) → Contains fs f → ⊥) → fs ≡ []
  none_if [] h = refl
  none_if (f ∷ fs) h = absurd (h f (0, omega arith, refl))

  pub first_enough : (found : Option Fault)
      → IsFirstInOrder (some ++ crowded put) found → IsFirstInOrder (faults ++ crowded all) found
  first_enough None first = none_if (faults ++ crowded all) (λ f k.
      let c = reported f (covered f k) in
      let held = subst (λ fs. Contains fs c.0) first c.1.0 in
      absurd (omega (arith, held.1)))
  first_enough (Some x) first = record {
    held =
        held_both some (crowded put) faults (crowded all) x (h.held x) (λ k. crowd_kept x (fault_of put put x k))
        first.held;
    least = λ f k. let c = reported f (covered f k) in not_before x c.0 f (first.least c.0 c.1.0) c.1.1;
  }
