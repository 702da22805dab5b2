-- A list of parts is found for a length exactly if they are its parts.
use Rattle.std.proofs.Common.{◌≡◌, refl, ap, ◌∙◌, subst, ℕ, zero, suc, ◌*◌, ◌/◌, ◌-◌, ◌≤◌, ◌&&◌, ◌==◌, List, []}
use Rattle.std.proofs.Common.{◌∷◌, length, Bool, true, false, Option, Some, None, option_map, nat_le, find, cond, arith}
use Rattle.std.proofs.lemmas.{Bool.Decides.nat_tests, Option.none-some, Option.same_Some}
use Rattle.std.specs.List.{list_all, list_any}
use Rattle.mus_units.specs.declared.value.Base.{Base}
use Rattle.mus_units.specs.declared.value.Value.{Value}
use Rattle.mus_units.specs.Parts.{ArePartsOf, IsLongestValue, IsPartsOf, all_values, cut_in, cut_next, longest_within}
use Rattle.mus_units.specs.Parts.{parts_list, units_of}
use Rattle.mus_units.proofs.Listed.{cut_at_end, cut_on, listed_is}
use Rattle.mus_units.proofs.Longest.{value_some}
use Rattle.mus_units.specs.declared.value.Base.TheVariants as bases

-- ---- the first value that fits is the longest
abbrev has_units : ℕ → List Value → Bool
has_units u xs = list_any (λ y. units_of y == u) xs

units_listed : (b : Base) (d : ℕ) → d ≤ 3 → has_units (units_of (record { base = b; dots = d })) all_values ≡ true
units_listed bases.Breve zero h = refl
units_listed bases.Breve (suc zero) h = refl
units_listed bases.Breve (suc (suc zero)) h = refl
units_listed bases.Breve (suc (suc (suc zero))) h = refl
units_listed _ zero h = refl
units_listed _ (suc zero) h = refl
units_listed _ (suc (suc zero)) h = refl
units_listed _ (suc (suc (suc zero))) h = refl
units_listed _ (suc (suc (suc (suc d)))) h = absurd (omega arith)

abbrev falls : List Value → Bool
falls [] = true
falls (x ∷ xs) = list_all (λ y. nat_le (units_of y) (units_of x)) xs && (nat_le x.dots 3 && falls xs)

below : (m u : ℕ) (xs : List Value)
    → list_all (λ y. nat_le (units_of y) m) xs ≡ true → has_units u xs ≡ true → u ≤ m
below m u [] all has = absurd cc
below m u (x ∷ xs) all has =
    by (units_of x == u) refl (λ rest. below m u xs (grind (arith, nat_tests)) rest)
  where
    by : (b : Bool) → (units_of x == u) ≡ b → (has_units u xs ≡ true → u ≤ m) → u ≤ m
    by true e others = grind (arith, nat_tests)
    by false e others = others (grind (arith, nat_tests))

record IsFirstWithin (left : ℕ) (xs : List Value) (v : Value) : Type 0 where
  dots : v.dots ≤ 3
  within : units_of v ≤ left
  longest : (u : ℕ) → has_units u xs ≡ true → u ≤ left → u ≤ units_of v

first_found : (left : ℕ) (xs : List Value) (v : Value)
    → falls xs ≡ true → find (λ y. nat_le (units_of y) left) xs ≡ Some v → IsFirstWithin left xs v
first_found left [] v order e = absurd (none-some v e)
first_found left (x ∷ xs) v order e =
    by (nat_le (units_of x) left) refl (λ found. first_found left xs v (grind (arith, nat_tests)) found) e
  where
    more : IsFirstWithin left xs v → nat_le (units_of x) left ≡ false
        → (u : ℕ) → has_units u (x ∷ xs) ≡ true → u ≤ left → u ≤ units_of v
    more rest long u has short =
        let other : (units_of x == u) ≡ false = grind (arith, nat_tests) in
        rest.longest u (grind (arith, nat_tests)) short

    by : (b : Bool) → nat_le (units_of x) left ≡ b
        → (find (λ y. nat_le (units_of y) left) xs ≡ Some v → IsFirstWithin left xs v)
        → cond b (Some x) (find (λ y. nat_le (units_of y) left) xs) ≡ Some v → IsFirstWithin left (x ∷ xs) v
    by true fits others e =
        subst (IsFirstWithin left (x ∷ xs)) (same_Some x v e) (record {
          dots = grind (arith, nat_tests);
          within = grind (arith, nat_tests);
          longest = λ u has short. below (units_of x) u (x ∷ xs) (grind (arith, nat_tests)) has;
        })
    by false long others e =
        let rest = others e in record { dots = rest.dots; within = rest.within; longest = more rest long }

longest_found : (left : ℕ) (v : Value) → longest_within left ≡ Some v → IsLongestValue left v
longest_found left v e =
    let first = first_found left all_values v refl e in
    record {
      dots = first.dots;
      within = first.within;
      longest = λ w few short. first.longest (units_of w) (units_listed w.base w.dots few) short;
    }

-- ---- what is cut is the parts
abbrev IsCutIn : ℕ → ℕ → List Value → Type 0
IsCutIn n left vs = ArePartsOf left vs × (length vs ≤ n)

ends : (n left : ℕ) (vs : List Value) → (left == 0) ≡ true → Some [] ≡ Some vs → IsCutIn n left vs
ends n left vs none e = subst (IsCutIn n left) (same_Some [] vs e) (grind (arith, nat_tests), omega arith)

cut_parts : (n left : ℕ) (vs : List Value) → cut_in n left ≡ Some vs → IsCutIn n left vs
cut_parts zero left vs e = by (left == 0) refl e where
  by : (b : Bool) → (left == 0) ≡ b → cond b (Some []) None ≡ Some vs → IsCutIn 0 left vs
  by true none e = ends 0 left vs none e
  by false some e = absurd (none-some vs e)
cut_parts (suc n) left vs e = by (left == 0) refl (λ rest ws cut. cut_parts n rest ws cut) e where
  Shorter : Type 0
  Shorter = (rest : ℕ) (ws : List Value) → cut_in n rest ≡ Some ws → IsCutIn n rest ws

  by_rest : Shorter → (v : Value) (o : Option (List Value)) → IsLongestValue left v → cut_in n (left - units_of v) ≡ o
      → option_map (λ ws. v ∷ ws) o ≡ Some vs → IsCutIn (suc n) left vs
  by_rest shorter v None longest cut e = absurd (none-some vs e)
  by_rest shorter v (Some ws) longest cut e =
      let rest = shorter (left - units_of v) ws cut in
      let few : length ws ≤ n = rest.1 in
      subst (IsCutIn (suc n) left) (same_Some (v ∷ ws) vs e) ((longest, rest.0), omega arith)

  by_value : Shorter → (o : Option Value)
      → longest_within left ≡ o → cut_next (cut_in n) left o ≡ Some vs → IsCutIn (suc n) left vs
  by_value shorter None found e = absurd (none-some vs e)
  by_value shorter (Some v) found e =
      by_rest shorter v (cut_in n (left - units_of v)) (longest_found left v found) refl e

  by : (b : Bool) → (left == 0) ≡ b → Shorter
      → cond b (Some []) (cut_next (cut_in n) left (longest_within left)) ≡ Some vs → IsCutIn (suc n) left vs
  by true none shorter e = ends (suc n) left vs none e
  by false some shorter e = by_value shorter (longest_within left) refl e

parts_cut : (n left : ℕ) (vs : List Value) → ArePartsOf left vs → length vs ≤ n → cut_in n left ≡ Some vs
parts_cut n left [] none few = cut_at_end n left none
parts_cut zero left (v ∷ vs) parts few = absurd (omega arith)
parts_cut (suc n) left (v ∷ vs) parts few =
    let some : 1 ≤ left = (let least = value_some v in let within = parts.0.within in omega arith) in
    cut_on n left v some parts.0
    ∙ ap (option_map (λ ws. v ∷ ws)) (parts_cut n (left - units_of v) vs parts.1 (omega arith))

-- ---- the parts of a length
parts_some : (num den left : ℕ) (vs : List Value)
    → 1 ≤ num → left * den ≡ 512 * num → ArePartsOf left vs → 1 ≤ length vs
parts_some num den left [] some whole none =
    let nothing : 0 * den ≡ 512 * num = subst (λ l. l * den ≡ 512 * num) none whole in absurd (omega arith)
parts_some num den left (v ∷ vs) some whole parts = omega arith

pub parts_found : (num den : ℕ) (vs : List Value) → 1 ≤ num → parts_list num den ≡ Some vs → IsPartsOf num den vs
unfolding parts_list
parts_found num den vs some e = by (512 * num / den * den == 512 * num) refl e where
  by : (b : Bool) → (512 * num / den * den == 512 * num) ≡ b
      → cond b (cut_in 8 (512 * num / den)) None ≡ Some vs → IsPartsOf num den vs
  by true test e =
      let whole : 512 * num / den * den ≡ 512 * num = grind (arith, nat_tests) in
      let cut = cut_parts 8 (512 * num / den) vs e in
      record {
        some = parts_some num den (512 * num / den) vs some whole cut.0;
        few = cut.1;
        parts = (512 * num / den, whole, cut.0);
      }
  by false test e = absurd (none-some vs e)

pub parts_taken : (num den : ℕ) (vs : List Value) → 1 ≤ den → IsPartsOf num den vs → parts_list num den ≡ Some vs
parts_taken num den vs some are =
    listed_is num den are.parts.0 some are.parts.1 ∙ parts_cut 8 are.parts.0 vs are.parts.2 are.few
