-- Lists that are made element by element.
use Rattle.std.proofs.Common.{◌≡◌, ℕ, ◌+◌, ◌<◌, List, [], ◌∷◌, ◌++◌, length, map, slice_index_or, sym, ap, ◌∙◌, arith}
use Rattle.std.proofs.lemmas.List.{ext_get_or}
use Rattle.std.proofs.lemmas.List.FromFn.{get_or-map-range_with_len, length-map-range_with_len, map-range_with_len_more}
use Rattle.std.specs.List.{range_with_len}

pub from_places : {X : Type 0} (f : ℕ → X) (xs : List X) (n : ℕ) (d : X)
    → length xs ≡ n → ((k : ℕ) → k < n → slice_index_or xs k d ≡ f k) → xs ≡ map f (range_with_len 0 n)
from_places f xs n d len at =
    ext_get_or d xs (map f (range_with_len 0 n)) (len ∙ sym (length-map-range_with_len f 0 n))
    (λ k less.
    let within : k < n = omega arith in at k within ∙ sym (get_or-map-range_with_len f 0 n k k d within (omega arith)))

pub made_more : {X : Type 0} (f : ℕ → X) (k : ℕ) (done new : List X) (x : X)
    → x ≡ f k → done ≡ map f (range_with_len 0 k) → new ≡ done ++ x ∷ [] → new ≡ map f (range_with_len 0 (k + 1))
made_more f k done new x is so_far put =
    put
    ∙ (ap (λ y. done ++ y ∷ []) is
    ∙ (ap (λ xs. xs ++ f k ∷ []) so_far ∙ sym (map-range_with_len_more f 0 k k (omega arith))))
