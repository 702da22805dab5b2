-- What is left of a list while a walk consumes it.
use Rattle.std.proofs.Common.{◌≡◌, ◌∙◌, sym, ap, zero, suc, List, [], ◌∷◌, ◌++◌, map, arith}
use Rattle.std.specs.List.{All}
use Rattle.abc_faults.proofs.Walks.{part_more}

-- one element made from the first that was left
pub mapped_taken : {X Y : Type 0} {xs ys : List X} {x : X} {new all : List Y} {y : Y} (f : X → Y) (done : List Y)
    → new ≡ done ++ y ∷ [] → y ≡ f x
    → xs ≡ x ∷ ys → done ++ map f xs ≡ all → new ++ map f ys ≡ all
mapped_taken {xs = xs} {ys = ys} {y = y} f done put made cut so_far =
    part_more (y ∷ []) (map f ys) (map f xs) done _ _ (ap (map f) cut ∙ ap (λ z. z ∷ map f ys) (sym made)) put so_far

-- a property of everything made from a list's elements holds for each of them as it is made
pub all_of : {X Y : Type 0} (f : X → Y) (P : Y → Type 0) (xs : List X) → All P (map f xs) → All (λ x. P (f x)) xs
all_of f P [] all k d less = absurd (omega arith)
all_of f P (x ∷ xs) all zero d less = all zero (f d) (omega arith)
all_of f P (x ∷ xs) all (suc k) d less = all_of f P xs (λ i e low. all (suc i) e (omega arith)) k d (omega arith)
