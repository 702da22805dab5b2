-- Each of two rows has the number of its bar.
use Rattle.std.specs.Prelude.{◌≡◌, ℕ, ◌<◌, ◌≤◌, List, [], ◌∷◌, All}
use Rattle.std.proofs.Common.{arith, sym, ◌∙◌, subst}
use Rattle.std.proofs.lemmas.List.Elements.{All-cons}

pub one_row : (a : ℕ) (row other : List ℕ) → row ≡ a ∷ [] → other ≡ a ∷ [] → row ≡ other
one_row a row other h k = h ∙ sym k

pub row_low : (a : ℕ) (row : List ℕ) → a < 2 → row ≡ a ∷ [] → All (λ force. force ≤ 2048) row
row_low a row l h =
    subst (λ row. All (λ force. force ≤ 2048) row) (sym h)
    (All-cons (λ force. force ≤ 2048) a [] (omega arith) (λ k d l. absurd (omega arith)))
