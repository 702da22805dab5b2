-- Text that is read part by part has one place where reading stops, and one fault there.
use Rattle.std.proofs.Common.{◌≡◌, ◌∙◌, refl, sym, ap, subst, ℕ, List, [], ◌∷◌, length, Bool, true, false, Option, Some}
use Rattle.std.proofs.Common.{None}
use Rattle.std.proofs.lemmas.Option.{same_Some}
use Rattle.std.specs.Prelude.{MatchBool}
use Rattle.abc_notes.specs.declared.part.Flaw.{Flaw}
use Rattle.abc_notes.specs.Parts.{IsLongest, HasNone, LeadsByParts, leads_here, leads_on, Flawed, stuck_here}
use Rattle.abc_notes.specs.Parts.{stuck_later, IsFlaw, length_at_place, goes_on_length}
use Rattle.abc_notes.proofs.PartLaws.{Reader, longest_is, none_of, at_nil}

-- a test means the same for two values if each of its sides does
pub by_test : {A B C D E : Type 0} (b : Bool) → (A → C → E) → (B → D → E) → MatchBool b A B → MatchBool b C D → E
by_test true first second a b = first a b
by_test false first second a b = second a b

module _ {I : Type 0} {Stands : I → List ℕ → List ℕ → Type 0} {at : List ℕ → Option (I × List ℕ)}
    (r : Reader I Stands at) where
  pub none_at_end : HasNone I Stands []
  none_at_end = none_of r [] (at_nil r)

  abbrev part_and : I → List ℕ → I × List ℕ
  part_and p x = (p, x)

  pub one_longest : (text : List ℕ) (p q : I) (x y : List ℕ)
      → IsLongest I Stands text p x → IsLongest I Stands text q y → (p ≡ q) × (x ≡ y)
  one_longest text p q x y l m =
      let e : Some (part_and p x) ≡ Some (part_and q y) = sym (longest_is r text p x l) ∙ longest_is r text q y m in
      let same = same_Some (part_and p x) (part_and q y) e in (ap (λ z. z.0) same, ap (λ z. z.1) same)

  -- the place that no part begins at
  pub one_stop : (text : List ℕ) (ps : List I) (x : List ℕ) (qs : List I) (y : List ℕ)
      → LeadsByParts I Stands text ps x → HasNone I Stands x → LeadsByParts I Stands text qs y → HasNone I Stands y
      → x ≡ y
  one_stop _ _ _ _ _ (leads_here _) none (leads_here _) stuck = refl
  one_stop _ _ _ _ _ (leads_here _) none (leads_on _ q y _ _ m _) stuck = absurd (none q y m.stands)
  one_stop _ _ _ _ _ (leads_on _ p x _ _ l _) none (leads_here _) stuck = absurd (stuck p x l.stands)
  one_stop _ _ _ _ _ (leads_on text p x ps end l a) none (leads_on _ q y qs other m b) stuck =
      one_stop x ps end qs other a none
      (subst (λ t. LeadsByParts I Stands t qs other) (one_longest text q p y x m l).1 b) stuck

  module _ (is_lengthy : I → Bool) (Own : List ℕ → Flaw → Type 0) where
    -- a list of parts to its end has no fault
    pub never_done : (text : List ℕ) (parts : List I) (before : Option ℕ) (flaw : Flaw)
        → LeadsByParts I Stands text parts [] → Flawed I Stands is_lengthy Own before text flaw → ⊥
    never_done _ _ _ _ (leads_here _) (stuck_later _ _ q y _ m _) = none_at_end q y m.stands
    never_done _ _ _ _ (leads_on _ p x _ _ l _) (stuck_here _ _ _ _ none _) = none p x l.stands
    never_done _ _ _ _ (leads_on text p x ps _ l a) (stuck_later _ _ q y flaw m b) =
        never_done x ps _ flaw a
        (subst (λ t. Flawed I Stands is_lengthy Own (length_at_place (is_lengthy q) (length text)) t flaw)
        (one_longest text q p y x m l).1 b)

    module _ (one_own : (text : List ℕ) (f g : Flaw) → Own text f → Own text g → f ≡ g) where
      one_here : (before : Option ℕ) (byte : ℕ) (rest : List ℕ) (f g : Flaw)
          → IsFlaw Own before byte rest f → IsFlaw Own before byte rest g → f ≡ g
      one_here None byte rest f g a b = one_own (byte ∷ rest) f g a b
      one_here (Some at) byte rest f g a b =
          by_test (goes_on_length byte) (λ x y. x ∙ sym y) (one_own (byte ∷ rest) f g) a b

      pub one_flaw : (before : Option ℕ) (text : List ℕ) (f g : Flaw)
          → Flawed I Stands is_lengthy Own before text f → Flawed I Stands is_lengthy Own before text g → f ≡ g
      one_flaw _ _ _ _ (stuck_here before byte rest f _ a) (stuck_here _ _ _ g _ b) = one_here before byte rest f g a b
      one_flaw _ _ _ _ (stuck_here _ _ _ _ none _) (stuck_later _ _ q y _ m _) = absurd (none q y m.stands)
      one_flaw _ _ _ _ (stuck_later _ _ p x _ l _) (stuck_here _ _ _ _ none _) = absurd (none p x l.stands)
      one_flaw _ _ _ _ (stuck_later _ text p x f l a) (stuck_later _ _ q y g m b) =
          let same = one_longest text q p y x m l in
          one_flaw (length_at_place (is_lengthy p) (length text)) x f g a (rw (same.0, same.1) at b)
