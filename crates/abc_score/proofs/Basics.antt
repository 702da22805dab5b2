-- Facts about lists and tests that several proofs share.
use Rattle.std.proofs.Common.{◌≡◌, refl, ℕ, List, [], ◌∷◌, ◌++◌, Bool, cond}
use Rattle.std.proofs.lemmas.Bool.{cond_both}
use Rattle.std.specs.List.{AllByRecursion}
use Rattle.abc_steps.specs.declared.state.VoiceState.{VoiceState}
use Rattle.abc_steps.specs.Tuplets.{fits, or_default}
use Rattle.abc_signs.specs.declared.written.TreeItem.{TreeItem}
use Rattle.abc_signs.specs.Signs.{tuplet_of}

-- an empty list has empty parts
pub none_before : {X : Type 0} (xs ys : List X) → xs ++ ys ≡ [] → xs ≡ []
none_before [] ys e = refl
none_before (x ∷ xs) ys e = absurd cc

pub none_after : {X : Type 0} (xs ys : List X) → xs ++ ys ≡ [] → ys ≡ []
none_after [] ys e = e
none_after (x ∷ xs) ys e = absurd cc

-- a property of both parts of a list
pub all_both : {X : Type 0} (P : X → Type 0) (xs ys : List X)
    → AllByRecursion P xs → AllByRecursion P ys → AllByRecursion P (xs ++ ys)
all_both P [] ys a b = b
all_both P (x ∷ xs) ys a b = (a.0, all_both P xs ys a.1 b)

pub prefix_all : {X : Type 0} (P : X → Type 0) (xs ys : List X) → AllByRecursion P (xs ++ ys) → AllByRecursion P xs
prefix_all P [] ys h = tt
prefix_all P (x ∷ xs) ys h = (h.0, prefix_all P xs ys h.1)

pub back_all : {X : Type 0} (P : X → Type 0) (xs ys : List X) → AllByRecursion P (xs ++ ys) → AllByRecursion P ys
back_all P [] ys h = h
back_all P (x ∷ xs) ys h = back_all P xs ys h.1

-- a property that holds for either result of a test, and whether or not a tuplet begins
pub either : {X : Type 0} (P : X → Type 0) (b : Bool) (x y : X) → P x → P y → P (cond b x y)
either P b x y h i = cond_both b x y P (λ e. h) (λ e. i)

pub with_tuplet : (P : List TreeItem → Type 0) (now : VoiceState) (p q r : ℕ)
    → ((m x y z : ℕ) → P (TreeItem.Opens m x y z ∷ [])) → P [] → P (tuplet_of now p q r)
with_tuplet P now p q r h i = either P (fits (or_default p r) now.taking) _ [] (h _ _ _ _) i
