-- The contents of a line of a text: bytes that lack the one that ends it.
use Rattle.std.specs.Prelude.{ℕ, ◌≢◌, List, [], ◌∷◌}

-- the byte isn't among them
abbrev pub Lacks : ℕ → List ℕ → Type 0
Lacks b [] = Unit {0}
Lacks b (x ∷ s) = (x ≢ b) × Lacks b s
