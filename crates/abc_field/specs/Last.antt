-- The last element of a list that names something.
use Rattle.std.specs.{Prelude.List, Prelude.[], Prelude.◌∷◌, Prelude.Option, Prelude.None, Option.option_or}

-- a later one takes precedence over an earlier one
abbrev pub last_of : {X Y : Type 0} → (X → Option Y) → List X → Option Y
last_of f [] = None
last_of f (x ∷ xs) = option_or (last_of f xs) (f x)
