-- Numbers that rise, each above the one before it.
use Rattle.std.specs.Prelude.{ℤ, ◌<ℤ◌, ⊤, List, [], ◌∷◌}

abbrev pub AreNumbersRisingFrom : ℤ → List ℤ → Type 0
AreNumbersRisingFrom x [] = ⊤
AreNumbersRisingFrom x (y ∷ ys) = (x <ℤ y) × AreNumbersRisingFrom y ys

abbrev pub AreRisingNumbers : List ℤ → Type 0
AreRisingNumbers [] = ⊤
AreRisingNumbers (x ∷ xs) = AreNumbersRisingFrom x xs
