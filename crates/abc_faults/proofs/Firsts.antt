-- The first of a set of faults: joined sets, and the least of a list.
use Rattle.std.proofs.Common.{◌≡◌, ◌∙◌, refl, sym, ap, ℕ, List, [], ◌∷◌, ◌++◌, append-nil, Bool, true, false, cond}
use Rattle.std.proofs.Common.{Option, Some, None, ⊎_elim, subst, arith}
use Rattle.std.proofs.lemmas.Bool.Decides.{nat_tests}
use Rattle.std.proofs.lemmas.List.Elements.{Contains-append_left, Contains-append_right, Contains-append_cases, All-nil}
use Rattle.std.proofs.lemmas.List.Elements.{All-cons, All-contains}
use Rattle.std.specs.Prelude.{nat_lt}
use Rattle.std.specs.List.{Contains}
use Rattle.abc_lines.specs.declared.fault.Fault.{Fault}
use Rattle.abc_faults.specs.First.{kind_rank, is_below_or_tied, is_before, IsLeastFault, IsFirstInOrder, earlier}
use Rattle.abc_faults.specs.First.{first_of}

-- the order of faults by three numbers
abbrev below : ℕ → ℕ → ℕ → ℕ → ℕ → ℕ → Bool
below a b c x y z = is_below_or_tied a x (is_below_or_tied b y (nat_lt c z))

below_then_below : (a b c x y z k m n : ℕ)
    → below a b c x y z ≡ true → below x y z k m n ≡ true → below a b c k m n ≡ true
below_then_below a b c x y z k m n h i = grind (arith, nat_tests)

not_then_not : (a b c x y z k m n : ℕ)
    → below x y z a b c ≡ false → below k m n x y z ≡ false → below k m n a b c ≡ false
not_then_not a b c x y z k m n h i = grind (arith, nat_tests)

not_itself : (a b c : ℕ) → below a b c a b c ≡ false
not_itself a b c = grind (arith, nat_tests)

-- f before g and g before h
pub before_then_before : (f g h : Fault) → is_before f g ≡ true → is_before g h ≡ true → is_before f h ≡ true
unfolding is_before
before_then_before f g h a b =
    below_then_below f.line f.column (kind_rank f.kind) g.line g.column (kind_rank g.kind) h.line h.column
    (kind_rank h.kind) a b

-- g not before f, and h not before g
pub not_before : (f g h : Fault) → is_before g f ≡ false → is_before h g ≡ false → is_before h f ≡ false
unfolding is_before
not_before f g h a b =
    not_then_not f.line f.column (kind_rank f.kind) g.line g.column (kind_rank g.kind) h.line h.column
    (kind_rank h.kind) a b

-- nothing is before itself
pub not_before_itself : (f : Fault) → is_before f f ≡ false
unfolding is_before
not_before_itself f = not_itself f.line f.column (kind_rank f.kind)

-- ---- the earlier of two
pub earlier_none : (a : Option Fault) → earlier a None ≡ a
earlier_none None = refl
earlier_none (Some f) = refl

of_three : (f g h : Fault) (x y : Bool)
    → is_before g f ≡ x → is_before h g ≡ y
    → earlier (earlier (Some f) (Some g)) (Some h) ≡ earlier (Some f) (earlier (Some g) (Some h))
of_three f g h true true a b = let c = before_then_before h g f b a in simp (a, b, c)
of_three f g h true false a b = simp (a, b)
of_three f g h false true a b = simp (a, b)
of_three f g h false false a b = let c = not_before f g h a b in simp (a, b, c)

pub earlier_assoc : (a b c : Option Fault) → earlier (earlier a b) c ≡ earlier a (earlier b c)
earlier_assoc None b c = refl
earlier_assoc (Some f) None c = refl
earlier_assoc (Some f) (Some g) None = earlier_none (earlier (Some f) (Some g))
earlier_assoc (Some f) (Some g) (Some h) = of_three f g h (is_before g f) (is_before h g) refl refl

pub first_append : (fs gs : List Fault) → first_of (fs ++ gs) ≡ earlier (first_of fs) (first_of gs)
first_append [] gs = refl
first_append (f ∷ fs) gs =
    ap (earlier (Some f)) (first_append fs gs) ∙ sym (earlier_assoc (Some f) (first_of fs) (first_of gs))

-- ---- the first of two sets together
with_none_before : (s t : List Fault) (f : Fault)
    → IsLeastFault s f → ((g : Fault) → Contains t g → is_before g f ≡ false) → IsLeastFault (s ++ t) f
with_none_before s t f h others = record {
  held = Contains-append_left s t f h.held;
  least = λ g in'. ⊎_elim (h.least g) (others g) (Contains-append_cases s t g in');
}

after_none_before : (s t : List Fault) (g : Fault)
    → IsLeastFault t g → ((f : Fault) → Contains s f → is_before f g ≡ false) → IsLeastFault (s ++ t) g
after_none_before s t g h others = record {
  held = Contains-append_right s t g h.held;
  least = λ f in'. ⊎_elim (others f) (h.least f) (Contains-append_cases s t f in');
}

-- h is not before f, and g is before f
not_before_earlier : (f g h : Fault) → is_before g f ≡ true → is_before h f ≡ false → is_before h g ≡ false
not_before_earlier f g h a b = by_test (is_before h g) refl where
  by_test : (x : Bool) → is_before h g ≡ x → is_before h g ≡ false
  by_test false e = e
  by_test true e = absurd (cc (before_then_before h g f e a))

of_two : (s t : List Fault) (f g : Fault) (x : Bool)
    → is_before g f ≡ x → IsLeastFault s f → IsLeastFault t g → IsFirstInOrder (s ++ t) (cond x (Some g) (Some f))
of_two s t f g true e a b = after_none_before s t g b (λ h in'. not_before_earlier f g h e (a.least h in'))
of_two s t f g false e a b = with_none_before s t f a (λ h in'. not_before f g h e (b.least h in'))

pub earlier_first : (s t : List Fault) (a b : Option Fault)
    → IsFirstInOrder s a → IsFirstInOrder t b → IsFirstInOrder (s ++ t) (earlier a b)
earlier_first s t None b h i = let P : List Fault → Type 0 = λ z. IsFirstInOrder (z ++ t) b in subst P (sym h) i
earlier_first s t (Some f) None h i =
    let P : List Fault → Type 0 = λ z. IsLeastFault (s ++ z) f in subst P (sym i) (rw append-nil h)
earlier_first s t (Some f) (Some g) h i = of_two s t f g (is_before g f) refl h i

alone : (f : Fault) → IsLeastFault (f ∷ []) f
alone f =
    let P : Fault → Type 0 = λ g. is_before g f ≡ false in
    record {
      held = (0, omega arith, refl);
      least = λ g in'. All-contains P (f ∷ []) g (All-cons P f [] (not_before_itself f) (All-nil P)) in';
    }

pub first_is : (fs : List Fault) → IsFirstInOrder fs (first_of fs)
first_is [] = refl
first_is (f ∷ fs) = earlier_first (f ∷ []) fs (Some f) (first_of fs) (alone f) (first_is fs)

-- one more part of a set, joined to the fault found before it
pub found_more : (own rest whole : List Fault) (found mine next all : Option Fault)
    → whole ≡ own ++ rest → mine ≡ first_of own → next ≡ earlier found mine → earlier found (first_of whole) ≡ all
    → earlier next (first_of rest) ≡ all
found_more own rest whole found mine next all parts is_mine is_next h =
    ap (λ z. earlier z (first_of rest)) (is_next ∙ ap (earlier found) is_mine)
    ∙ earlier_assoc found (first_of own) (first_of rest)
    ∙ ap (earlier found) (sym (first_append own rest) ∙ ap first_of (sym parts)) ∙ h

-- the earlier of two, by the code's test
pub joined : (s t : List Fault) (a b : Option Fault) (f g : Fault) (x : Bool)
    → a ≡ Some f → b ≡ Some g → is_before g f ≡ x → IsFirstInOrder s a → IsFirstInOrder t b
    → IsFirstInOrder (s ++ t) (cond x (Some g) (Some f))
joined s t a b f g x is_f is_g test h i =
    let left : IsFirstInOrder s (Some f) = subst (IsFirstInOrder s) is_f h in
    let right : IsFirstInOrder t (Some g) = subst (IsFirstInOrder t) is_g i in
    of_two s t f g x test left right
