-- What holds of borrowed values holds of the values.
use Rattle.std.proofs.Common.{◌≡◌, ◌∙◌, ℕ, ◌+◌, ◌<◌, List, [], ◌∷◌, ◌++◌, ap, get_or, length, map, subst, sym, take}
use Rattle.std.proofs.lemmas.List.{map-append, take_more}
use Rattle.std.proofs.lemmas.List.Elements.{All-cons, All-head, All-nil, All-tail}
use Rattle.std.specs.List.{AllZip}
use Rattle.std.specs.Prelude.{All}

module _ {A B : Type 0} (f : A → B) where
  all_of_map : {S : Type 0} (P : B → Type 0) (xs : List A) → S → All P (map f xs) → All (λ x. S × P (f x)) xs
  all_of_map {S} P [] s holds = All-nil (λ x. S × P (f x))
  all_of_map {S} P (x ∷ xs) s holds =
      All-cons (λ x. S × P (f x)) x xs (s, All-head P (f x) (map f xs) holds)
      (all_of_map P xs s (All-tail P (f x) (map f xs) holds))

  pub all_lent : {S : Type 0} (P : B → Type 0) (xs : List A) (bs : List B)
      → map f xs ≡ bs → S → All P bs → All (λ x. S × P (f x)) xs
  all_lent P xs bs same s holds = all_of_map P xs s (subst (All P) (sym same) holds)

  zip_of_map : {C : Type 0} (R : B → C → Type 0) (xs : List A) (ys : List C)
      → AllZip (λ x y. R (f x) y) xs ys → AllZip R (map f xs) ys
  zip_of_map R [] [] zip = zip
  zip_of_map R [] (y ∷ ys) zip = absurd zip
  zip_of_map R (x ∷ xs) [] zip = absurd zip
  zip_of_map R (x ∷ xs) (y ∷ ys) zip = (zip.0, zip_of_map R xs ys zip.1)

  pub zip_lent : {C : Type 0} (R : B → C → Type 0) (xs : List A) (bs : List B) (ys : List C)
      → map f xs ≡ bs → AllZip (λ x y. R (f x) y) xs ys → AllZip R bs ys
  zip_lent R xs bs ys same zip = subst (λ bs. AllZip R bs ys) same (zip_of_map R xs ys zip)

  -- one more value is borrowed
  pub lent_more : (xs : List A) (bs : List B) (i : ℕ) (x : A)
      → i < length bs → f x ≡ get_or bs i (f x) → map f xs ≡ take i bs → map f (xs ++ x ∷ []) ≡ take (i + 1) bs
  lent_more xs bs i x short is all =
      rw (take_more bs i (f x) short, ← is) (map-append f xs (x ∷ []) ∙ ap (λ l. l ++ f x ∷ []) all)
