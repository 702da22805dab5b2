-- The events of a tree as a list: tuplets around them change neither the events nor their weight.
use Rattle.std.proofs.Common.{◌≡◌, ◌∙◌, refl, sym, ap, ℕ, zero, suc, ◌+◌, ◌-◌, List, [], ◌∷◌, ◌++◌, map, sum, sum_by}
use Rattle.std.proofs.Common.{Bool, append_assoc, arith}
use Rattle.std.proofs.lemmas.List.{map-append, Sums.{sum_by-cons, sum_by-append}}
use Rattle.abc_events.specs.{Leaf.Leaf, Nesting.{Forest, none_more, one, group, cut, nest, music_of}}
use Rattle.mus_score.specs.Good.{weight, weight_step}
use Rattle.mus_score.specs.declared.score.Event.{Event}
use Rattle.mus_score.specs.declared.score.Music.{Music}
use Rattle.mus_score.specs.declared.score.Music.TheOpen.{Music-F}
use Rattle.mus_score.specs.declared.score.Music.TheViews.{roll-Music}
use Rattle.mus_score.specs.declared.score.Music.TheFolds.{fold-Music, fold-roll-Music}
use Rattle.mus_score.specs.declared.score.Music.TheVariants as music

-- the nodes of each event, in order
abbrev pub rows : Forest → List (List Music)
rows none_more = []
rows (one nodes f) = nodes ∷ rows f
rows (group p q takes inner f) = rows inner ++ rows f

abbrev pub leaf_rows : List Leaf → List (List Music)
leaf_rows [] = []
leaf_rows (Leaf.Event measure nodes ∷ ls) = nodes ∷ leaf_rows ls
leaf_rows (Leaf.Opens measure p q r ∷ ls) = leaf_rows ls

cut_rows : (r : ℕ) (f : Forest) → rows (cut r f).taken ++ rows (cut r f).left ≡ rows f
cut_rows zero f = refl
cut_rows (suc r) none_more = refl
cut_rows (suc r) (one nodes f) = ap (λ z. nodes ∷ z) (cut_rows r f)
cut_rows (suc r) (group p q takes inner f) =
    append_assoc (rows inner) _ _ ∙ ap (λ z. rows inner ++ z) (cut_rows (suc r - takes) f)

pub nest_rows : (ls : List Leaf) → rows (nest ls) ≡ leaf_rows ls
nest_rows [] = refl
nest_rows (Leaf.Event measure nodes ∷ ls) = ap (λ z. nodes ∷ z) (nest_rows ls)
nest_rows (Leaf.Opens measure p q r ∷ ls) = cut_rows r (nest ls) ∙ nest_rows ls

-- The result of a fold for each kind of node.
module _ {A : Type 0} (step : Music-F A → A) where
  pub at_note : (e : Event) → fold-Music A step (music.Note e) ≡ step (Music-F.Note e)
  unfolding roll-Music denote.Hole.Carrier.roll
  at_note e = fold-roll-Music A step (Music-F.Note e)

  pub at_rest : (e : Event) → fold-Music A step (music.Rest e) ≡ step (Music-F.Rest e)
  unfolding roll-Music denote.Hole.Carrier.roll
  at_rest e = fold-roll-Music A step (Music-F.Rest e)

  pub at_grace : (body : List Music) (slash : Bool)
      → fold-Music A step (music.Grace body slash) ≡ step (Music-F.Grace (map (fold-Music A step) body) slash)
  unfolding roll-Music denote.Hole.Carrier.roll
  at_grace body slash = fold-roll-Music A step (Music-F.Grace body slash)

  pub at_tuplet : (p q : ℕ) (body : List Music)
      → fold-Music A step (music.Tuplet p q body) ≡ step (Music-F.Tuplet p q (map (fold-Music A step) body))
  unfolding roll-Music denote.Hole.Carrier.roll
  at_tuplet p q body = fold-roll-Music A step (Music-F.Tuplet p q body)

-- the heads and rests of nodes
abbrev pub weight_of : List Music → ℕ
weight_of body = sum (map weight body)

pub weight_of-append : (xs ys : List Music) → weight_of (xs ++ ys) ≡ weight_of xs + weight_of ys
weight_of-append xs ys = ap sum (map-append weight xs ys) ∙ sum_by-append (λ n. n) (map weight xs) (map weight ys)

pub weight_of-cons : (m : Music) (ms : List Music) → weight_of (m ∷ ms) ≡ weight m + weight_of ms
weight_of-cons m ms = sum_by-cons (λ n. n) (weight m) (map weight ms)

forest_weight : (f : Forest) → weight_of (music_of f) ≡ sum_by weight_of (rows f)
forest_weight none_more = refl
forest_weight (one nodes f) =
    weight_of-append nodes _
    ∙ ap (λ n. weight_of nodes + n) (forest_weight f)
    ∙ sym (sum_by-cons weight_of nodes (rows f))
forest_weight (group p q takes inner f) =
    let first = weight_of-cons (music.Tuplet p q (music_of inner)) (music_of f) in
    let own : weight (music.Tuplet p q (music_of inner)) ≡ weight_of (music_of inner) = at_tuplet weight_step p q _ in
    omega (arith, first, own, forest_weight inner, forest_weight f, sum_by-append weight_of (rows inner) (rows f))

pub tree_weight : (ls : List Leaf) → weight_of (music_of (nest ls)) ≡ sum_by weight_of (leaf_rows ls)
tree_weight ls = forest_weight (nest ls) ∙ ap (sum_by weight_of) (nest_rows ls)
