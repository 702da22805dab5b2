-- A loop over a list that ends at the first element that fails a property.
use Rattle.std.{proofs.Common.{ℕ, List, drop}, specs.List.AllByRecursion}

-- if all that are left have the property, all have it, and conversely
pub record Settles {X : Type 0} (P : X → Type 0) (xs : List X) (i : ℕ) : Type 0 where
  pub enough : AllByRecursion P (drop i xs) → AllByRecursion P xs
  pub needed : AllByRecursion P xs → AllByRecursion P (drop i xs)
