-- The tree of a measure: its leaves in sequence, in which each tuplet takes the events that follow it.
use Rattle.std.specs.Prelude.{◌≡◌, ℕ, zero, suc, ◌-◌, ◌≤◌, List, [], ◌∷◌, ◌++◌}
use Rattle.mus_score.specs.declared.score.Music.{Music}
use Rattle.abc_events.specs.Leaf.{Leaf}
use Rattle.abc_events.specs.declared.nesting.OpenTuplet.{OpenTuplet}
use Rattle.abc_events.specs.declared.nesting.Tree.{Tree}
use Rattle.mus_score.specs.declared.score.Music.TheVariants as music

-- a sequence of events, each with its nodes, and of tuplets with the number of events they take, each with a sequence
-- of its own
pub data Forest : Type 0 where
  none_more : Forest
  one : List Music → Forest → Forest
  group : (p q takes : ℕ) → Forest → Forest → Forest

pub record Cut : Type 0 where
  pub taken : Forest
  pub left : Forest

-- the next r events, with the tuplets among them kept whole, and the rest
abbrev pub cut : ℕ → Forest → Cut
cut zero f = record { taken = none_more; left = f }
cut (suc r) none_more = record { taken = none_more; left = none_more }
cut (suc r) (one nodes f) = let c = cut r f in record { taken = one nodes c.taken; left = c.left }
cut (suc r) (group p q takes inner f) =
    let c = cut (suc r - takes) f in record { taken = group p q takes inner c.taken; left = c.left }

-- a tuplet takes the next r events after it
abbrev pub put_in_front : Leaf → Forest → Forest
put_in_front (Leaf.Event measure nodes) f = one nodes f
put_in_front (Leaf.Opens measure p q r) f = let c = cut r f in group p q r c.taken c.left

abbrev pub nest : List Leaf → Forest
nest [] = none_more
nest (l ∷ more) = put_in_front l (nest more)

abbrev pub music_of : Forest → List Music
music_of none_more = []
music_of (one nodes f) = nodes ++ music_of f
music_of (group p q takes inner f) = music.Tuplet p q (music_of inner) ∷ music_of f

abbrev pub tree_of : List Leaf → List Music
tree_of leaves = music_of (nest leaves)

-- When a sequence has been read in part: what the open tuplets take from the rest, outermost first.
pub record Filled : Type 0 where
  pub nodes : List Music
  pub forest : Forest

abbrev pub fill_one : OpenTuplet → Filled → Filled
fill_one o z =
    let c = cut o.left z.forest in
    record { nodes = o.before ++ music.Tuplet o.p o.q (z.nodes ++ music_of c.taken) ∷ []; forest = c.left }

abbrev pub filled_tuplets : List OpenTuplet → Filled → Filled
filled_tuplets [] z = z
filled_tuplets (o ∷ os) z = fill_one o (filled_tuplets os z)

abbrev pub filled : List Music → Forest → Filled
filled nodes f = record { nodes = nodes; forest = f }

abbrev pub finish : Filled → List Music
finish z = z.nodes ++ music_of z.forest

abbrev pub whole : List OpenTuplet → List Music → Forest → List Music
whole os body f = finish (filled_tuplets os (filled body f))

-- Whatever follows, the new state yields for it what the old state yields for it after what was put.
abbrev pub Puts : List OpenTuplet → List Music → List OpenTuplet → List Music → (Forest → Forest) → Type 0
Puts os body os' body' put = (f : Forest) → whole os' body' f ≡ whole os body (put f)

-- the innermost tuplet still takes an event
abbrev pub TakesAnother : List OpenTuplet → Type 0
TakesAnother [] = Unit {0}
TakesAnother (o ∷ []) = 1 ≤ o.left
TakesAnother (o ∷ p ∷ os) = TakesAnother (p ∷ os)

-- what a tree becomes with the leaves that follow
abbrev pub grown : Tree → List Leaf → List Music
grown t leaves = whole t.stack.items t.body (nest leaves)

abbrev pub no_tree : Tree
no_tree = record { stack = record { items = []; capacity = 0 }; body = [] }
