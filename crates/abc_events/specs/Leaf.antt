-- A leaf of the tree of a measure: the nodes of a written event, or a tuplet of p in the time of q that takes the
-- next r events.
use Rattle.{std.specs.Prelude.{ℕ, List}, mus_score.specs.declared.score.Music.{Music}}

pub data Leaf : Type 0 where
  Event : (measure : ℕ) (nodes : List Music) → Leaf
  Opens : (measure p q r : ℕ) → Leaf
