-- What a walk over the voices and bars of a score sees.
use Rattle.std.specs.Prelude.{◌≢◌, ⊤, ℕ, ◌<◌, List, [], ◌∷◌}
use Rattle.std.specs.List.{AllByRecursion}
use Rattle.mus_score.specs.declared.score.Voice.{Voice}

-- no voice has the id of a later one
abbrev pub Distinct : List Voice → Type 0
Distinct [] = ⊤
Distinct (v ∷ vs) = AllByRecursion (λ w. v.id ≢ w.id) vs × Distinct vs

-- increasing numbers above one bound and below another
abbrev pub RiseWithin : ℕ → ℕ → List ℕ → Type 0
RiseWithin from to [] = ⊤
RiseWithin from to (b ∷ bs) = (from < b) × (b < to) × RiseWithin b to bs
