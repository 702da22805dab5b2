-- The plain name of a decoration is read as that decoration.
use Rattle.std.proofs.Common.{◌≡◌, ℕ, Bool, true, false, cond, List, [], ◌∷◌, refl, sym, ap, ◌∙◌, subst, arith, inl}
use Rattle.std.proofs.Common.{inr, ◌⊎◌, Some, find, unwrap_or}
use Rattle.std.specs.List.{list_all}
use Rattle.std.proofs.lemmas.Bool.{and_parts, cond_both}
use Rattle.mus_units.specs.declared.note.Deco.{Deco}
use Rattle.mus_units.specs.declared.note.Deco.TheVariants.{Ks, Below, Above, Quiet}
use Rattle.abc_notes.specs.Decorations.{deco_of_letter, deco_of_name, deco_of_text, deco_name, drawn_decos, is_dynamic}
use Rattle.abc_notes.specs.Decorations.{is_finger}
use Rattle.abc_notes.specs.Items.{IsName}

-- the name means the decoration, and may be put between exclamation marks
pub record GoodDeco (d : Deco) : Type 0 where
  pub means : deco_of_name (deco_name d) ≡ d
  pub name : IsName (deco_name d)

abbrev is_drawn : Deco → Bool
is_drawn (Below text) = false
is_drawn (Above text) = false
is_drawn (Quiet text) = false
is_drawn _ = true

drawn_means : (d : Deco) → is_drawn d ≡ true → deco_of_name (deco_name d) ≡ d
unfolding deco_of_name drawn_decos
drawn_means (Below text) h = cc
drawn_means (Above text) h = cc
drawn_means (Quiet text) h = cc
drawn_means _ h = refl

drawn_name : (d : Deco) → is_drawn d ≡ true → IsName (deco_name d)
drawn_name (Below text) h = cc
drawn_name (Above text) h = cc
drawn_name (Quiet text) h = cc
drawn_name _ h = record { some = omega arith; bytes = refl }

drawn_good : (d : Deco) → is_drawn d ≡ true → GoodDeco d
drawn_good d h = record { means = drawn_means d h; name = drawn_name d h }

all_drawn : list_all is_drawn drawn_decos ≡ true
unfolding drawn_decos
all_drawn = refl

-- what holds of those that are drawn and of another decoration holds of the first that passes a test, or else that one
found_or : (P : Deco → Type 0) (p : Deco → Bool) (ds : List Deco) (other : Deco)
    → ((d : Deco) → is_drawn d ≡ true → P d) → list_all is_drawn ds ≡ true → P other → P (unwrap_or (find p ds) other)
found_or P p [] other drawn all last = last
found_or P p (d ∷ ds) other drawn all last =
    let parts = and_parts (is_drawn d) (list_all is_drawn ds) all in
    cond_both (p d) (Some d) (find p ds) (λ o. P (unwrap_or o other)) (λ e. drawn d parts.0)
    (λ e. found_or P p ds other drawn parts.1 last)

pub letter_good : (b : ℕ) → GoodDeco (deco_of_letter b)
unfolding deco_of_letter
letter_good b = found_or GoodDeco _ drawn_decos Ks drawn_good all_drawn (drawn_good Ks refl)

-- a name means a decoration that is drawn, or one that keeps the name
abbrev Kept : List ℕ → Deco → Type 0
Kept name d = (is_drawn d ≡ true) ⊎ (deco_name d ≡ name)

text_kept : (name : List ℕ) → Kept name (deco_of_text name)
unfolding deco_of_text
text_kept name =
    cond_both (is_dynamic name) (Below name) (cond (is_finger name) (Above name) (Quiet name)) (Kept name)
    (λ e. inr refl) (λ e.
    cond_both (is_finger name) (Above name) (Quiet name) (Kept name) (λ e. inr refl) (λ e. inr refl))

name_kept : (name : List ℕ) → Kept name (deco_of_name name)
unfolding deco_of_name
name_kept name =
    found_or (Kept name) _ drawn_decos (deco_of_text name) (λ d h. inl h) all_drawn (text_kept name)

kept_good : (name : List ℕ) (d : Deco) → d ≡ deco_of_name name → IsName name → Kept name d → GoodDeco d
kept_good name d is good (inl drawn) = drawn_good d drawn
kept_good name d is good (inr same) =
    record { means = ap deco_of_name same ∙ sym is; name = subst IsName (sym same) good }

pub name_good : (name : List ℕ) → IsName name → GoodDeco (deco_of_name name)
name_good name good = kept_good name (deco_of_name name) refl good (name_kept name)
