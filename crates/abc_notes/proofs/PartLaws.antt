-- A reader that returns a part at the start of the text, at least as long as any part there, reads the one list of
-- longest parts.
use Rattle.std.proofs.Common.{◌≡◌, ℕ, zero, suc, ◌≤◌, ◌<◌, List, [], ◌∷◌, length, Option, Some, None, refl, sym, ap}
use Rattle.std.proofs.Common.{◌∙◌, subst, arith, inl, inr, ◌⊎◌}
use Rattle.std.proofs.{Common.{IfSome, option_map}, lemmas.{Option.same_Some, List.nil_from_length}}
use Rattle.abc_notes.specs.Parts.{IsLongest, HasNone, Parts, no_part, then_part, walk_on, walk_from, walk}

pub record Reader (I : Type 0) (Stands : I → List ℕ → List ℕ → Type 0)
    (at : List ℕ → Option (I × List ℕ)) : Type 0 where
  pub takes : (s : List ℕ) → IfSome (at s) (λ z. Stands z.0 s z.1)
  pub reaches : (f : I) (s x : List ℕ)
      → Stands f s x → (z : I × List ℕ) × (at s ≡ Some z) × ((length z.1 < length x) ⊎ (z ≡ (f, x)))
  pub longer : (f : I) (s x : List ℕ) → Stands f s x → length x < length s

-- what was read, of which a call returns a part, or that nothing was read
pub read_from : {A B : Type 0} (f : A → B) (r : Option A) (y : B)
    → Some y ≡ option_map f r → (x : A) × (r ≡ Some x) × (y ≡ f x)
read_from f None y e = absurd cc
read_from f (Some x) y e = (x, refl, same_Some y (f x) e)

pub mapped_some : {A B : Type 0} (f : A → B) (r : Option A) (P : B → Type 0) {Q : A → Type 0}
    → IfSome r Q → ((x : A) → Q x → P (f x))
    → IfSome (option_map f r) P
mapped_some f None P h k = tt
mapped_some f (Some x) P h k = k x h

-- values that were written to a place are no longer than what they are
pub all_within : {T : Type 0} (now : T → List ℕ) (n : ℕ) (r : Option T) {o : Option (List ℕ)} → option_map now r ≡ o →
    ((c : List ℕ) → o ≡ Some c → length c ≤ n) → IfSome r (λ x. length (now x) ≤ n)
all_within now n None e within = tt
all_within now n (Some x) e within = within (now x) (sym e)

pub none_from : {A B : Type 0} (f : A → B) (r : Option A) → None ≡ option_map f r → r ≡ None
none_from f None e = refl
none_from f (Some x) e = absurd cc

module _ {I : Type 0} {Stands : I → List ℕ → List ℕ → Type 0} {at : List ℕ → Option (I × List ℕ)}
    (r : Reader I Stands at) where
  pub stands_at : (s : List ℕ) (z : I × List ℕ) → at s ≡ Some z → Stands z.0 s z.1
  stands_at s z e = subst (λ (o : Option (I × List ℕ)). IfSome o (λ y. Stands y.0 s y.1)) e (r.takes s)

  pub less : (s : List ℕ) (z : I × List ℕ) → at s ≡ Some z → length z.1 < length s
  less s z e = r.longer z.0 s z.1 (stands_at s z e)

  pub longest_of : (s : List ℕ) (z : I × List ℕ) → at s ≡ Some z → IsLongest I Stands s z.0 z.1
  longest_of s z e = record {
    stands = stands_at s z e;
    longest = λ other following stands.
        let o = r.reaches other s following stands in let same : z ≡ o.0 = same_Some z o.0 (sym e ∙ o.1) in
        elim o.2 [ inl shorter ↦ rw same (omega (arith, shorter)) | inr equal ↦ rw (same, equal) (omega arith) ];
  }

  pub none_of : (s : List ℕ) → at s ≡ None → HasNone I Stands s
  none_of s e part rest stands = let o = r.reaches part s rest stands in let same : None ≡ Some o.0 = sym e ∙ o.1 in cc

  pub longest_is : (s : List ℕ) (part : I) (rest : List ℕ) → IsLongest I Stands s part rest → at s ≡ Some (part, rest)
  longest_is s part rest l =
      let o = r.reaches part s rest l.stands in let least = l.longest o.0.0 o.0.1 (stands_at s o.0 o.1) in
      elim o.2 [ inl shorter ↦ absurd (omega (arith, shorter, least)) | inr equal ↦ o.1 ∙ ap Some equal ]

  nothing_there : (o : Option (I × List ℕ)) → at [] ≡ o → o ≡ None
  nothing_there None e = refl
  nothing_there (Some z) e = absurd (omega (arith, less [] z e))

  pub at_nil : at [] ≡ None
  at_nil = nothing_there (at []) refl

  same_step : (n m : ℕ) (s : List ℕ) (o : Option (I × List ℕ)) → at s ≡ o → length s ≤ suc n → length s ≤ suc m →
      ((t : List ℕ) → length t ≤ n → length t ≤ m → walk_from at n t ≡ walk_from at m t)
      → walk_on (walk_from at n) s o ≡ walk_on (walk_from at m) s o
  same_step n m s None e a b next = refl
  same_step n m s (Some z) e a b next =
      let shorter = less s z e in rw (next z.1 (omega (arith, shorter, a)) (omega (arith, shorter, b))) refl

  empty_walk : (m : ℕ) → walk_on (walk_from at m) [] (at []) ≡ ([], [])
  empty_walk m = rw at_nil refl

  same_fuel : (n m : ℕ) (s : List ℕ) → length s ≤ n → length s ≤ m → walk_from at n s ≡ walk_from at m s
  same_fuel zero zero s a b = refl
  same_fuel zero (suc m) [] a b = sym (empty_walk m)
  same_fuel zero (suc m) (x ∷ s) a b = absurd (omega (arith, a))
  same_fuel (suc n) zero [] a b = empty_walk n
  same_fuel (suc n) zero (x ∷ s) a b = absurd (omega (arith, b))
  same_fuel (suc n) (suc m) s a b = same_step n m s (at s) refl a b (same_fuel n m)

  pub walk-none : (s : List ℕ) → at s ≡ None → walk at s ≡ ([], s)
  unfolding walk
  walk-none [] e = refl
  walk-none (x ∷ s) e = rw e refl

  pub walk-some : (s : List ℕ) (z : I × List ℕ) → at s ≡ Some z → walk at s ≡ (z.0 ∷ (walk at z.1).0, (walk at z.1).1)
  unfolding walk
  walk-some [] z e = absurd (omega (arith, less [] z e))
  walk-some (x ∷ s) z e =
      rw (e, same_fuel (length s) (length z.1) z.1 (omega (arith, less (x ∷ s) z e)) (omega arith)) refl

  pub left_none : (s : List ℕ) → at s ≡ None → (walk at s).1 ≡ s
  left_none s e = ap (λ (w : List I × List ℕ). w.1) (walk-none s e)

  pub left_some : (s : List ℕ) (z : I × List ℕ) → at s ≡ Some z → (walk at s).1 ≡ (walk at z.1).1
  left_some s z e = ap (λ (w : List I × List ℕ). w.1) (walk-some s z e)

  -- what holds where there is no part, and carries over from a rest to a part before it, holds of each text
  pub by_parts : (P : List ℕ → Type 0) → ((s : List ℕ) → at s ≡ None → P s) →
      ((s : List ℕ) (z : I × List ℕ) → at s ≡ Some z → P z.1 → P s) → (s : List ℕ) → P s
  by_parts P none some s = within (length s) s (omega arith)
    where
      read_on : (t : List ℕ) (o : Option (I × List ℕ))
          → at t ≡ o → ((z : I × List ℕ) → length z.1 < length t → P z.1) → P t
      read_on t None e next = none t e
      read_on t (Some z) e next = some t z e (next z (less t z e))

      within : (n : ℕ) (t : List ℕ) → length t ≤ n → P t
      within zero t h = read_on t (at t) refl (λ z lt. absurd (omega (arith, lt, h)))
      within (suc n) t h = read_on t (at t) refl (λ z lt. within n z.1 (omega (arith, lt, h)))

  -- there is no part where reading the parts stops
  pub stops_at : (s : List ℕ) → at (walk at s).1 ≡ None
  stops_at = by_parts (λ s. at (walk at s).1 ≡ None)
      (λ s e. ap (λ (w : List I × List ℕ). at w.1) (walk-none s e) ∙ e)
      (λ s z e next. ap (λ (w : List I × List ℕ). at w.1) (walk-some s z e) ∙ next)

  pub parts_of_walk : (s : List ℕ) → length (walk at s).1 ≡ 0 → Parts I Stands s (walk at s).0
  parts_of_walk = by_parts (λ s. length (walk at s).1 ≡ 0 → Parts I Stands s (walk at s).0)
      (λ s e done. let none = nil_from_length s (rw (walk-none s e) at done) in rw (walk-none s e, none) no_part)
      (λ s z e next done.
      rw (walk-some s z e) (then_part s z.0 z.1 _ (longest_of s z e) (next (rw (walk-some s z e) at done))))

  pub walk_of_parts : (s : List ℕ) (is : List I) → Parts I Stands s is → walk at s ≡ (is, [])
  walk_of_parts _ _ no_part = walk-none [] at_nil
  walk_of_parts _ _ (then_part s part rest more l others) =
      walk-some s (part, rest) (longest_is s part rest l) ∙ rw (walk_of_parts rest more others)
