-- Bars in parts that follow each other.
use Rattle.std.specs.Prelude.{◌≡◌, ℕ, List, [], ◌∷◌}
use Rattle.lay_rows.specs.declared.ranges.BarRange.{BarRange}

-- the parts have the bars from `from` up to, and without, `to`, in order and each bar once
abbrev pub AreBars : ℕ → ℕ → List BarRange → Type 0
AreBars from to [] = from ≡ to
AreBars from to (part ∷ parts) = (part.from ≡ from) × AreBars part.to to parts
