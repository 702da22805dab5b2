-- What is left of a list while a walk consumes it.
use Rattle.std.proofs.Common.{◌≡◌, ap, subst, ℕ, suc, ◌+◌, List, ◌∷◌, length, arith}
use Rattle.std.specs.List.{All}

pub all_left : {X : Type 0} (P : X → Type 0) (xs ys : List X) (x : X) → xs ≡ x ∷ ys → All P xs → All P ys
all_left P xs ys x e all k d less =
    let whole : All P (x ∷ ys) = subst (λ zs. All P zs) e all in whole (suc k) d (omega arith)

pub count_left : {X : Type 0} (xs ys : List X) (x : X) (m n : ℕ)
    → xs ≡ x ∷ ys → n + 1 ≡ m → m ≡ length xs → n ≡ length ys
count_left xs ys x m n e less count = let long : length xs ≡ suc (length ys) = ap length e in omega arith
