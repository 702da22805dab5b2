-- What holds of all elements holds of those after the first; the first of good measures.
use Rattle.std.proofs.Common.{◌≡◌, ◌≤◌, List, [], ◌∷◌, length, get_or, subst, sym, arith}
use Rattle.std.proofs.lemmas.List.Elements.{All-from_recursion, recursion_from_All}
use Rattle.std.specs.List.{All}
use Rattle.mus_drawn.specs.{declared.drawn.DrawnMeasure.DrawnMeasure, Good.IsGoodMeasure, Good.AreGoodMeasures}

pub all_after : {A : Type 0} (P : A → Type 0) (x : A) (xs all : List A) → all ≡ x ∷ xs → All P all → All P xs
all_after P x xs all is h = All-from_recursion P xs (recursion_from_All P (x ∷ xs) (subst (All P) is h)).1

pub first_good : (ms : List DrawnMeasure) (m : DrawnMeasure)
    → 1 ≤ length ms → m ≡ get_or ms 0 m → AreGoodMeasures ms → IsGoodMeasure m
first_good [] m some is good = absurd (omega (arith, some))
first_good (n ∷ ms) m some is good = subst IsGoodMeasure (sym is) good.0
