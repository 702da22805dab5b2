-- The measures made so far, and the trees that are left.
use Rattle.std.proofs.Common.{◌≡◌, sym, ap, ◌∙◌, ℕ, suc, ◌+◌, ◌<◌, List, [], ◌∷◌, ◌++◌, length, slice_index_or, arith}
use Rattle.std.proofs.lemmas.List.FromFn.{map-range_with_len_more}
use Rattle.std.specs.Prelude.{map}
use Rattle.std.specs.List.{range_with_len}
use Rattle.mus_units.specs.declared.note.Bar.{Bar}
use Rattle.mus_score.specs.declared.score.Music.{Music}
use Rattle.mus_score.specs.declared.score.Measure.{Measure}
use Rattle.abc_events.specs.Leaf.{Leaf}
use Rattle.abc_events.specs.declared.nesting.Tree.{Tree}
use Rattle.abc_events.specs.Bars.{plain_bar}
use Rattle.abc_events.specs.Nesting.{tree_of, grown, no_tree}
use Rattle.abc_events.specs.Measures.{leaves_in, measure_of_leaves}

-- the trees from measure k on
abbrev pub AreTrees : List Leaf → ℕ → ℕ → List Tree → Type 0
AreTrees leaves n k trees =
    (j : ℕ) → k + j < n → grown (slice_index_or trees j no_tree) [] ≡ tree_of (leaves_in (k + j) leaves)

-- the first of these trees
first_tree : (leaves : List Leaf) (tree : Tree) (n k : ℕ) (trees next : List Tree)
    → trees ≡ tree ∷ next → k < n → AreTrees leaves n k trees → grown tree [] ≡ tree_of (leaves_in k leaves)
first_tree leaves tree n k trees next e less are =
    let at : grown (slice_index_or trees 0 no_tree) [] ≡ tree_of (leaves_in (k + 0) leaves) = are 0 (omega arith) in
    let same : k + 0 ≡ k = omega arith in
    sym (ap (λ ts. grown (slice_index_or ts 0 no_tree) []) e) ∙ (at ∙ ap (λ m. tree_of (leaves_in m leaves)) same)

pub other_trees : (leaves : List Leaf) (tree : Tree) (n k : ℕ) (trees next : List Tree)
    → trees ≡ tree ∷ next → AreTrees leaves n k trees → AreTrees leaves n (k + 1) next
other_trees leaves tree n k trees next e are j less =
    let at : grown (slice_index_or trees (suc j) no_tree) [] ≡ tree_of (leaves_in (k + suc j) leaves) =
    are (suc j) (omega arith) in
    let same : k + suc j ≡ k + 1 + j = omega arith in
    sym (ap (λ ts. grown (slice_index_or ts (suc j) no_tree) []) e) ∙ (at ∙ ap (λ m. tree_of (leaves_in m leaves)) same)

pub measure_pushed : (leaves : List Leaf) (tree : Tree) (bars : List Bar) (k : ℕ) (trees next : List Tree)
    (body : List Music) (made made' : List Measure)
    → trees ≡ tree ∷ next → k + length trees ≡ length bars → AreTrees leaves (length bars) k trees
    → body ≡ grown tree []
    → made ≡ map (measure_of_leaves leaves bars) (range_with_len 0 k)
    → made' ≡ made ++ record { body = body; bar = slice_index_or bars k plain_bar } ∷ []
    → made' ≡ map (measure_of_leaves leaves bars) (range_with_len 0 (k + 1))
measure_pushed leaves tree bars k trees next body made made' e left are whole so_far put =
    let long : length trees ≡ suc (length next) = ap length e in
    let is : body ≡ tree_of (leaves_in k leaves) =
    whole ∙ first_tree leaves tree (length bars) k trees next e (omega arith) are in
    put
    ∙ (ap (λ b. made ++ record { body = b; bar = slice_index_or bars k plain_bar } ∷ []) is
    ∙ (ap (λ ms. ms ++ measure_of_leaves leaves bars k ∷ []) so_far
    ∙ sym (map-range_with_len_more (measure_of_leaves leaves bars) 0 k k (omega arith))))
