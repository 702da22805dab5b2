-- Breakings of the bars 1 to n into spans: which are legal, what they cost, which one is chosen, and the least sum
-- for each bar. A breaking is the rising list of the bars at which its spans end. `cost a b` is the cost of the span
-- from bar a to bar b, if it fits; `forced b` says whether each legal breaking has bar b.
use Rattle.std.specs.Prelude.{◌≡◌, ℕ, ◌+◌, ◌<◌, ◌≤◌, ◌⊎◌, Bool, true, List, [], ◌∷◌, reverse, Option, MatchOption}
use Rattle.std.specs.Prelude.{Contains, unwrap_or, IsSome}

-- each bar is past the one before it, the first past a
abbrev pub RisesFrom : ℕ → List ℕ → Type 0
RisesFrom a [] = Unit {0}
RisesFrom a (b ∷ bs) = (a < b) × RisesFrom b bs

-- the last bar, or a if there is none
abbrev pub last_from : ℕ → List ℕ → ℕ
last_from a [] = a
last_from a (b ∷ bs) = last_from b bs

-- each span fits, the first beginning at a
abbrev pub FitsFrom : (ℕ → ℕ → Option ℕ) → ℕ → List ℕ → Type 0
FitsFrom cost a [] = Unit {0}
FitsFrom cost a (b ∷ bs) = IsSome (cost a b) × FitsFrom cost b bs

-- the total cost of the spans, the first beginning at a
abbrev pub sum_from : (ℕ → ℕ → Option ℕ) → ℕ → List ℕ → ℕ
sum_from cost a [] = 0
sum_from cost a (b ∷ bs) = unwrap_or (cost a b) 0 + sum_from cost b bs

-- A legal prefix that ends at bar i: a rising list that ends with i, has every forced bar up to i, and whose spans
-- all fit. The empty list is the one that ends at 0. If i is the last bar, it is a legal breaking.
pub record IsLegal (cost : ℕ → ℕ → Option ℕ) (forced : ℕ → Bool) (breaks : List ℕ) (i : ℕ) : Type 0 where
  pub rises : RisesFrom 0 breaks
  pub ends : last_from 0 breaks ≡ i
  pub every_forced : (f : ℕ) → f ≤ i → forced f ≡ true → Contains breaks f
  pub fits : FitsFrom cost 0 breaks

-- lexicographic order, in which a proper prefix is smaller
abbrev pub LexAtMost : List ℕ → List ℕ → Type 0
LexAtMost [] ys = Unit {0}
LexAtMost (x ∷ xs) [] = ⊥
LexAtMost (x ∷ xs) (y ∷ ys) = (x < y) ⊎ ((x ≡ y) × LexAtMost xs ys)

-- The chosen breaking of the bars 1 to n: legal, least in sum, and among equals the one that, read from its end,
-- is lexicographically greatest.
pub record IsChosen (cost : ℕ → ℕ → Option ℕ) (forced : ℕ → Bool) (n : ℕ) (breaks : List ℕ) : Type 0 where
  pub legal : IsLegal cost forced breaks n
  pub least : (other : List ℕ) → IsLegal cost forced other n → sum_from cost 0 breaks ≤ sum_from cost 0 other
  pub latest : (other : List ℕ)
      → IsLegal cost forced other n → sum_from cost 0 other ≡ sum_from cost 0 breaks
      → LexAtMost (reverse other) (reverse breaks)

-- the chosen breaking is unique
abbrev pub OneIsChosen : Type 0
OneIsChosen =
    (cost : ℕ → ℕ → Option ℕ) (forced : ℕ → Bool) (n : ℕ) (breaks others : List ℕ)
    → IsChosen cost forced n breaks → IsChosen cost forced n others → breaks ≡ others

-- v is the least sum of a legal prefix that ends at bar i
pub record IsLeastSum (cost : ℕ → ℕ → Option ℕ) (forced : ℕ → Bool) (i v : ℕ) : Type 0 where
  pub reached : (breaks : List ℕ) × IsLegal cost forced breaks i × (sum_from cost 0 breaks ≡ v)
  pub least : (other : List ℕ) → IsLegal cost forced other i → v ≤ sum_from cost 0 other

-- no legal prefix ends at bar i
abbrev pub NoneLegal : (ℕ → ℕ → Option ℕ) → (ℕ → Bool) → ℕ → Type 0
NoneLegal cost forced i = (other : List ℕ) → IsLegal cost forced other i → ⊥

-- the potential of bar i: the least sum of a legal prefix that ends there, or None if there is none
abbrev pub IsPotential : (ℕ → ℕ → Option ℕ) → (ℕ → Bool) → ℕ → Option ℕ → Type 0
IsPotential cost forced i o = MatchOption o (NoneLegal cost forced i) (λ v. IsLeastSum cost forced i v)

-- the greatest bar from 0 to n at which a legal prefix ends
pub record IsReached (cost : ℕ → ℕ → Option ℕ) (forced : ℕ → Bool) (n i : ℕ) : Type 0 where
  pub within : i ≤ n
  pub legal : (breaks : List ℕ) × IsLegal cost forced breaks i
  pub greatest : (k : ℕ) (other : List ℕ) → k ≤ n → IsLegal cost forced other k → k ≤ i
