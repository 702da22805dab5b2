-- The forced bars of n bars.
use Rattle.std.specs.{Prelude.{◌≡◌, ℕ, ◌<◌, ◌==◌, ◌&&◌, Bool, true, nat_lt, nat_le, List}, List.list_any}

-- whether bar b is one of the bars 1 to n, and forced
abbrev pub is_forced : ℕ → List ℕ → ℕ → Bool
is_forced n forced b = (nat_lt 0 b && nat_le b n) && list_any (λ f. f == b) forced

-- a forced bar is strictly between a and b
abbrev pub ForcedInside : (ℕ → Bool) → ℕ → ℕ → Type 0
ForcedInside forced a b = (f : ℕ) × (a < f) × (f < b) × (forced f ≡ true)
