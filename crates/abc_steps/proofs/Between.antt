-- With no step between two events there is no broken rhythm between them.
use Rattle.std.proofs.Common.{◌≡◌, ◌∙◌, refl, sym, ap, List, [], ◌∷◌, Bool, true, false, cond, None, length, arith}
use Rattle.std.proofs.Common.{◌==◌}
use Rattle.std.proofs.lemmas.Bool.Decides.{nat_tests}
use Rattle.abc_steps.specs.Looks.{Steps, broken_among}

none_among : broken_among [] ≡ None
unfolding broken_among
none_among = refl

nothing_between : (has_length : Bool) (between : Steps)
    → between ≡ [] → cond has_length (broken_among between) None ≡ None
nothing_between true between e = ap broken_among e ∙ none_among
nothing_between false between e = refl

pub is_none : {X : Type 0} (xs : List X) → (length xs == 0) ≡ true → xs ≡ []
is_none [] e = refl
is_none (x ∷ xs) e = let none : length (x ∷ xs) ≡ 0 = grind (arith, nat_tests, e) in absurd (omega (arith, none))

pub none_between : (has_length is_empty : Bool) (found between : Steps)
    → found ≡ between → is_empty ≡ (length found == 0) → is_empty ≡ true
    → None ≡ cond has_length (broken_among between) None
none_between has_length is_empty found between same tests holds =
    sym (nothing_between has_length between (sym same ∙ is_none found (sym tests ∙ holds)))
