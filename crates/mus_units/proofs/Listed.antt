-- The parts of a length as a computed list.
use Rattle.std.proofs.Common.{◌≡◌, refl, sym, subst, ◌&&◌, ◌∙◌, ap, ℕ, zero, suc, ◌+◌, ◌*◌, ◌/◌, ◌-◌, ◌≤◌, ◌<◌, List}
use Rattle.std.proofs.Common.{[], ◌∷◌, ◌++◌, append_assoc, append-nil, Bool, true, false, Option, Some, None}
use Rattle.std.proofs.Common.{option_map, ◌⊎◌, inl, inr, arith, nat_le, nat_lt, ◌==◌, find, flat_map}
use Rattle.std.proofs.lemmas.Bool.Decides.{nat_tests}
use Rattle.std.proofs.Math.Nat.{mul-div_cancel}
use Rattle.std.specs.List.{list_all}
use Rattle.mus_units.specs.declared.value.Base.{Base}
use Rattle.mus_units.specs.declared.value.Value.{Value}
use Rattle.mus_units.specs.Parts.{units_of, IsLongestValue, all_values, dotted, longest_within, cut_in, parts_list}
use Rattle.mus_units.specs.declared.value.Base.TheVariants as bases

abbrev IsIn : {A : Type 0} → List A → A → Type 0
IsIn [] v = ⊥
IsIn (x ∷ xs) v = (v ≡ x) ⊎ IsIn xs v

in_left : {A : Type 0} (xs ys : List A) (v : A) → IsIn xs v → IsIn (xs ++ ys) v
in_left [] ys v h = absurd h
in_left (x ∷ xs) ys v (inl e) = inl e
in_left (x ∷ xs) ys v (inr h) = inr (in_left xs ys v h)

in_right : {A : Type 0} (xs ys : List A) (v : A) → IsIn ys v → IsIn (xs ++ ys) v
in_right [] ys v h = h
in_right (x ∷ xs) ys v h = inr (in_right xs ys v h)

in_flat : (bs : List Base) (b : Base) (v : Value) → IsIn bs b → IsIn (dotted b) v → IsIn (flat_map dotted bs) v
in_flat [] b v h in_dotted = absurd h
in_flat (x ∷ bs) b v (inl e) in_dotted =
    in_left (dotted x) (flat_map dotted bs) v (subst (λ y. IsIn (dotted y) v) e in_dotted)
in_flat (x ∷ bs) b v (inr h) in_dotted = in_right (dotted x) (flat_map dotted bs) v (in_flat bs b v h in_dotted)

every_base : List Base
every_base =
    bases.Breve ∷ bases.Whole ∷ bases.Half ∷ bases.Quarter ∷ bases.Eighth ∷ bases.N16 ∷ bases.N32 ∷ bases.N64 ∷ []

base_in : (b : Base) → IsIn every_base b
unfolding every_base
base_in bases.Breve = inl refl
base_in bases.Whole = inr (inl refl)
base_in bases.Half = inr (inr (inl refl))
base_in bases.Quarter = inr (inr (inr (inl refl)))
base_in bases.Eighth = inr (inr (inr (inr (inl refl))))
base_in bases.N16 = inr (inr (inr (inr (inr (inl refl)))))
base_in bases.N32 = inr (inr (inr (inr (inr (inr (inl refl))))))
base_in bases.N64 = inr (inr (inr (inr (inr (inr (inr (inl refl)))))))

dots_in : (b : Base) (d : ℕ) → d ≤ 3 → IsIn (dotted b) (record { base = b; dots = d })
dots_in b zero h = inr (inr (inr (inl refl)))
dots_in b (suc zero) h = inr (inr (inl refl))
dots_in b (suc (suc zero)) h = inr (inl refl)
dots_in b (suc (suc (suc zero))) h = inl refl
dots_in b (suc (suc (suc (suc d)))) h = absurd (omega arith)

value_in : (v : Value) → v.dots ≤ 3 → IsIn all_values v
unfolding every_base
value_in v h = in_flat every_base v.base v (base_in v.base) (dots_in v.base v.dots h)

-- each is longer than all after it, has at most three dots, and is at least eight units long
abbrev descends : List Value → Bool
descends [] = true
descends (x ∷ xs) =
    (list_all (λ y. nat_lt (units_of y) (units_of x)) xs && nat_le x.dots 3) && (nat_le 8 (units_of x) && descends xs)

shorter_after : (v : Value) (u : ℕ) (xs : List Value)
    → list_all (λ y. nat_lt (units_of y) u) xs ≡ true → IsIn xs v → units_of v < u
shorter_after v u [] h i = absurd i
shorter_after v u (x ∷ xs) h (inl e) = subst (λ y. units_of y < u) (sym e) (grind (arith, nat_tests))
shorter_after v u (x ∷ xs) h (inr i) = shorter_after v u xs (grind (arith, nat_tests)) i

-- the first value that fits is the longest
first_is : (left : ℕ) (v : Value) (xs : List Value)
    → descends xs ≡ true → IsLongestValue left v → IsIn xs v → find (λ y. nat_le (units_of y) left) xs ≡ Some v
first_is left v [] d is i = absurd i
first_is left v (x ∷ xs) d is (inl e) =
    let fits : nat_le (units_of x) left ≡ true =
    (let k : units_of x ≤ left = subst (λ y. units_of y ≤ left) e is.within in grind (arith, nat_tests)) in
    rw (fits, e) refl
first_is left v (x ∷ xs) d is (inr i) =
    let following : list_all (λ y. nat_lt (units_of y) (units_of x)) xs ≡ true = grind (arith, nat_tests) in
    let dots : x.dots ≤ 3 = grind (arith, nat_tests) in
    let rest : descends xs ≡ true = grind (arith, nat_tests) in
    let shorter = shorter_after v (units_of x) xs following i in
    let none : nat_le (units_of x) left ≡ false =
    (let m : units_of x ≤ left → units_of x ≤ units_of v = is.longest x dots in grind (arith, nat_tests)) in
    rw none (first_is left v xs rest is i)

pub longest_is_listed : (left : ℕ) (v : Value) → IsLongestValue left v → longest_within left ≡ Some v
longest_is_listed left v is = first_is left v all_values refl is (value_in v is.dots)

none_of : (left : ℕ) (xs : List Value) → descends xs ≡ true → left < 8 → find (λ y. nat_le (units_of y) left) xs ≡ None
none_of left [] d h = refl
none_of left (x ∷ xs) d h =
    let long : nat_le (units_of x) left ≡ false = grind (arith, nat_tests) in
    let rest : descends xs ≡ true = grind (arith, nat_tests) in
    rw long (none_of left xs rest h)

pub none_is_listed : (left : ℕ) → left < 8 → longest_within left ≡ None
none_is_listed left h = none_of left all_values refl h

-- a length of more than n times 2047 units isn't split into n parts
pub too_long_to_cut : (n left : ℕ) → 2047 * n < left → cut_in n left ≡ None
too_long_to_cut zero left h =
    let some : (left == 0) ≡ false = grind (arith, nat_tests) in rw some refl
too_long_to_cut (suc n) left h =
    let some : (left == 0) ≡ false = grind (arith, nat_tests) in
    let fits : nat_le 1920 left ≡ true = grind (arith, nat_tests) in
    let rest = too_long_to_cut n (left - 1920) (omega arith) in
    rw (some, fits, rest) refl

-- the parts so far, and what is left
pub cut_at_end : (n left : ℕ) → left ≡ 0 → cut_in n left ≡ Some []
cut_at_end zero left e = rw e refl
cut_at_end (suc n) left e = rw e refl

pub cut_on : (n left : ℕ) (v : Value)
    → 1 ≤ left → IsLongestValue left v → cut_in (suc n) left ≡ option_map (λ vs. v ∷ vs) (cut_in n (left - units_of v))
cut_on n left v some is =
    let more : (left == 0) ≡ false = grind (arith, nat_tests) in rw (more, longest_is_listed left v is) refl

pub cut_short : (n left : ℕ) → 1 ≤ left → left < 8 → cut_in (suc n) left ≡ None
cut_short n left some short =
    let more : (left == 0) ≡ false = grind (arith, nat_tests) in rw (more, none_is_listed left short) refl

-- a length that isn't whole has none
pub listed_none : (num den : ℕ) → ((left : ℕ) → left * den ≡ 512 * num → ⊥) → None ≡ parts_list num den
unfolding parts_list
listed_none num den none =
    let not_whole : (512 * num / den * den == 512 * num) ≡ false =
    (let k = none (512 * num / den) in grind (arith, nat_tests)) in
    rw not_whole refl

whole_is : (num den all : ℕ) → 1 ≤ den → all * den ≡ 512 * num → 512 * num / den ≡ all
whole_is num den all some is = rw (← is) (mul-div_cancel all some)

pub listed_is : (num den all : ℕ) → 1 ≤ den → all * den ≡ 512 * num → parts_list num den ≡ cut_in 8 all
unfolding parts_list
listed_is num den all some is =
    let whole : (all * den == 512 * num) ≡ true = grind (arith, nat_tests) in
    rw (whole_is num den all some is, whole) refl

-- what is left to split after the parts so far
pub done_at : (num den all left i : ℕ) (parts : List Value)
    → 1 ≤ den → all * den ≡ 512 * num → left ≡ 0
    → option_map (λ vs. parts ++ vs) (cut_in (8 - i) left) ≡ cut_in 8 all
    → Some parts ≡ parts_list num den
done_at num den all left i parts some is none so_far =
    let put : option_map (λ vs. parts ++ vs) (cut_in (8 - i) left) ≡ Some parts =
    rw (cut_at_end (8 - i) left none, append-nil parts) refl in
    sym (listed_is num den all some is ∙ sym so_far ∙ put)

pub fails_at : (num den all left i : ℕ) (parts : List Value)
    → 1 ≤ den → all * den ≡ 512 * num → i < 8 → 1 ≤ left → left < 8
    → option_map (λ vs. parts ++ vs) (cut_in (8 - i) left) ≡ cut_in 8 all
    → None ≡ parts_list num den
fails_at num den all left i parts some is room more short so_far =
    let turn : 8 - i ≡ suc (7 - i) = omega arith in
    let put : option_map (λ vs. parts ++ vs) (cut_in (8 - i) left) ≡ None =
    rw (turn, cut_short (7 - i) left more short) refl in
    sym (listed_is num den all some is ∙ sym so_far ∙ put)

pub left_over : (num den all left i : ℕ) (parts : List Value)
    → 1 ≤ den → all * den ≡ 512 * num → 8 ≤ i → 1 ≤ left
    → option_map (λ vs. parts ++ vs) (cut_in (8 - i) left) ≡ cut_in 8 all
    → None ≡ parts_list num den
left_over num den all left i parts some is end more so_far =
    let turn : 8 - i ≡ 0 = omega arith in
    let rest : (left == 0) ≡ false = grind (arith, nat_tests) in
    let put : option_map (λ vs. parts ++ vs) (cut_in (8 - i) left) ≡ None = rw (turn, rest) refl in
    sym (listed_is num den all some is ∙ sym so_far ∙ put)

pub long_at : (num den all : ℕ) → 1 ≤ den → all * den ≡ 512 * num → 16384 ≤ all → None ≡ parts_list num den
long_at num den all some is long = sym (listed_is num den all some is ∙ too_long_to_cut 8 all (omega arith))

map_map : (parts : List Value) (v : Value) (o : Option (List Value))
    → option_map (λ vs. (parts ++ v ∷ []) ++ vs) o ≡ option_map (λ vs. parts ++ vs) (option_map (λ vs. v ∷ vs) o)
map_map parts v None = refl
map_map parts v (Some vs) = ap Some (append_assoc parts (v ∷ []) vs)

pub cut_one_more : (all left rest i : ℕ) (parts next : List Value) (v : Value)
    → i < 8 → 1 ≤ left → IsLongestValue left v → rest ≡ left - units_of v → next ≡ parts ++ v ∷ []
    → option_map (λ vs. parts ++ vs) (cut_in (8 - i) left) ≡ cut_in 8 all
    → option_map (λ vs. next ++ vs) (cut_in (8 - (i + 1)) rest) ≡ cut_in 8 all
cut_one_more all left rest i parts next v room more is less put so_far =
    let turn : 8 - i ≡ suc (8 - (i + 1)) = omega arith in
    let cut : cut_in (8 - i) left ≡ option_map (λ vs. v ∷ vs) (cut_in (8 - (i + 1)) (left - units_of v)) =
    rw turn (cut_on (8 - (i + 1)) left v more is) in
    rw (put, less)
    (map_map parts v (cut_in (8 - (i + 1)) (left - units_of v))
    ∙ ap (option_map (λ vs. parts ++ vs)) (sym cut)
    ∙ so_far)

-- before the first part
pub cut_first : (all : ℕ) (parts : List Value)
    → parts ≡ [] → option_map (λ vs. parts ++ vs) (cut_in 8 all) ≡ cut_in 8 all
cut_first all parts none = rw none (all_of (cut_in 8 all)) where
  all_of : (o : Option (List Value)) → option_map (λ vs. [] ++ vs) o ≡ o
  all_of None = refl
  all_of (Some vs) = refl
