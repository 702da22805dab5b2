-- The values of tree items have at most three dots.
use Rattle.std.proofs.Common.{◌≡◌, refl, sym, ap, ◌∙◌, subst, ℕ, zero, suc, ◌+◌, ◌-◌, ◌≤◌, List, [], ◌∷◌, ◌++◌, length}
use Rattle.std.proofs.Common.{Bool, true, false, cond, Option, Some, None, arith, nat_le, reverse, take, drop}
use Rattle.std.proofs.Common.{append-nil}
use Rattle.std.proofs.lemmas.Bool.{and_parts}
use Rattle.std.proofs.lemmas.List.Elements.{All-nil, All-cons, All-append}
use Rattle.std.proofs.lemmas.List.{drop_all}
use Rattle.std.specs.Prelude.{unwrap_or, find, option_map, ◌==◌, ◌*◌, ◌/◌, ⊤}
use Rattle.std.specs.List.{All, list_all}
use Rattle.mus_units.specs.declared.value.Value.{Value}
use Rattle.mus_units.specs.Parts.{units_of, all_values, longest_within, cut_next, cut_in, parts_list}
use Rattle.abc_steps.specs.declared.step.WrittenSound.{WrittenSound}
use Rattle.abc_steps.specs.declared.step.Step.{Step}
use Rattle.abc_steps.specs.declared.step.PlacedStep.{PlacedStep}
use Rattle.abc_steps.specs.declared.force.InForce.{InForce}
use Rattle.abc_steps.specs.declared.state.VoiceState.{VoiceState}
use Rattle.abc_steps.specs.Looks.{Steps, since_event}
use Rattle.abc_steps.specs.Lengths.{written_length}
use Rattle.abc_steps.specs.Tuplets.{fits, or_default, usual_q}
use Rattle.abc_steps.specs.Places.{state_at, measure_of}
use Rattle.abc_signs.specs.declared.written.TreeItem.{TreeItem}
use Rattle.abc_signs.specs.Signs.{HasDrawableValues, sound_written, rest_written, further_rests, tuplet_of}
use Rattle.abc_signs.specs.Signs.{tree_items_of, signs, parted_at, whole_value}

abbrev IsFew : Value → Type 0
IsFew v = v.dots ≤ 3

abbrev AreFew : List Value → Type 0
AreFew vs = All IsFew vs

-- the longest value
abbrev FewIn : Option Value → Type 0
FewIn None = ⊤
FewIn (Some v) = IsFew v

find_few : (p : Value → Bool) (xs : List Value) → AreFew xs → FewIn (find p xs)
find_few p [] few = tt
find_few p (x ∷ xs) few = by_test (p x) (find_few p xs (λ k d less. few (suc k) d (omega arith))) where
  by_test : (b : Bool) → FewIn (find p xs) → FewIn (cond b (Some x) (find p xs))
  by_test true others = few 0 x (omega arith)
  by_test false others = others

few_by_test : (xs : List Value) → list_all (λ v. nat_le v.dots 3) xs ≡ true → AreFew xs
few_by_test [] h = All-nil IsFew
few_by_test (x ∷ xs) h =
    let parts = and_parts (nat_le x.dots 3) (list_all (λ v. nat_le v.dots 3) xs) h in
    let test : nat_le x.dots 3 ≡ true = parts.0 in
    All-cons IsFew x xs (grind (arith, test)) (few_by_test xs parts.1)

values_few : AreFew all_values
values_few = few_by_test all_values refl

-- the parts of a length
next_few : (others : ℕ → Option (List Value)) (left : ℕ) (o : Option Value)
    → ((n : ℕ) → AreFew (unwrap_or (others n) [])) → FewIn o → AreFew (unwrap_or (cut_next others left o) [])
next_few others left None few is = All-nil IsFew
next_few others left (Some v) few is = by_rest (others (left - units_of v)) (few (left - units_of v)) where
  by_rest : (o : Option (List Value)) → AreFew (unwrap_or o []) → AreFew (unwrap_or (option_map (λ vs. v ∷ vs) o) [])
  by_rest None h = All-nil IsFew
  by_rest (Some vs) h = All-cons IsFew v vs is h

cut_few : (n left : ℕ) → AreFew (unwrap_or (cut_in n left) [])
cut_few zero left = by_test (left == 0) where
  by_test : (b : Bool) → AreFew (unwrap_or (cond b (Some []) None) [])
  by_test true = All-nil IsFew
  by_test false = All-nil IsFew
cut_few (suc n) left =
    by_test (left == 0)
    (next_few (cut_in n) left (longest_within left) (cut_few n)
    (find_few (λ v. nat_le (units_of v) left) all_values values_few)) where
      by_test : (b : Bool)
          → AreFew (unwrap_or (cut_next (cut_in n) left (longest_within left)) [])
          → AreFew (unwrap_or (cond b (Some []) (cut_next (cut_in n) left (longest_within left))) [])
      by_test true others = All-nil IsFew
      by_test false others = others

parts_few : (num den : ℕ) → AreFew (unwrap_or (parts_list num den) [])
unfolding parts_list
parts_few num den = by_test (512 * num / den * den == 512 * num) where
  by_test : (b : Bool) → AreFew (unwrap_or (cond b (cut_in 8 (512 * num / den)) None) [])
  by_test true = cut_few 8 (512 * num / den)
  by_test false = All-nil IsFew

sound_few : (now : VoiceState) (before following : Steps) (at : PlacedStep) (s : WrittenSound)
    → AreFew (sound_written now before at s following).values
unfolding sound_written
sound_few now before following at s =
    let length = written_length now.force.unit s before following in parts_few length.num length.den

rest_few : (now : VoiceState) (at : PlacedStep) (seen : Bool) (measure : ℕ) (parted : Bool)
    → AreFew (rest_written now at seen measure parted).values
unfolding rest_written
rest_few now at seen measure parted = All-cons IsFew whole_value [] (omega arith) (All-nil IsFew)

further_drawn : (now : VoiceState) (at : PlacedStep) (seen : Bool) (measure n : ℕ)
    → All HasDrawableValues (further_rests now at seen measure n)
further_drawn now at seen measure zero = All-nil HasDrawableValues
further_drawn now at seen measure (suc n) =
    All-cons HasDrawableValues _ (further_rests now at seen (measure + 1) n) (rest_few now at seen measure false)
    (further_drawn now at seen (measure + 1) n)

tuplet_drawn : (now : VoiceState) (p q r : ℕ) → All HasDrawableValues (tuplet_of now p q r)
tuplet_drawn now p q r = by_test (fits (or_default p r) now.taking) where
  by_test : (b : Bool)
      → All HasDrawableValues
      (cond b (TreeItem.Opens (measure_of now) p (or_default (usual_q p now.force.meter) q) (or_default p r) ∷ []) [])
  by_test true = All-cons HasDrawableValues _ [] tt (All-nil HasDrawableValues)
  by_test false = All-nil HasDrawableValues

step_drawn : (now : VoiceState) (before following : Steps) (at : PlacedStep) (s : Step)
    → All HasDrawableValues (tree_items_of now before at following s)
unfolding tree_items_of
step_drawn now before following at (Step.Sound s) =
    All-cons HasDrawableValues _ [] (sound_few now before following at s) (All-nil HasDrawableValues)
step_drawn now before following at (Step.Measures seen count) =
    All-cons HasDrawableValues _ (further_rests now at seen (measure_of now + 1) (count - 1))
    (rest_few now at seen (measure_of now) (parted_at now (since_event before)))
    (further_drawn now at seen (measure_of now + 1) (count - 1))
step_drawn now before following at (Step.Tuplet p q r) = tuplet_drawn now p q r
step_drawn now before following at _ = All-nil HasDrawableValues

pub signs_drawn : (first : InForce) (before following : Steps) → All HasDrawableValues (signs first before following)
signs_drawn first before [] = All-nil HasDrawableValues
signs_drawn first before (at ∷ following) =
    All-append HasDrawableValues (tree_items_of (state_at first before) before at following at.step)
    (signs first (at ∷ before) following) (step_drawn (state_at first before) before following at at.step)
    (signs_drawn first (at ∷ before) following)

-- at the end of the walk
pub walk_drawn : (first : InForce) (steps : Steps) (i : ℕ) (out : List TreeItem)
    → length steps ≤ i
    → out ++ signs first (reverse (take i steps)) (drop i steps) ≡ signs first [] steps
    → All HasDrawableValues out
walk_drawn first steps i out past e =
    let end : drop i steps ≡ [] = drop_all i steps past in
    let is : out ≡ signs first [] steps =
    sym (append-nil out) ∙ (ap (λ xs. out ++ signs first (reverse (take i steps)) xs) (sym end) ∙ e) in
    let P : List TreeItem → Type 0 = λ r. All HasDrawableValues r in subst P (sym is) (signs_drawn first [] steps)
