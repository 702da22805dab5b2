use Rattle.std.{proofs.Common.◌≡◌, proofs.Common.◌++◌, proofs.Common.drop, proofs.Common.map, specs.List.list_all}
use Rattle.mus_transpose.specs.Moved.{head_moves, moved_head}
use Rattle.mus_transpose.proofs.trees.moved_heads.Given as goal

abbrev pub invariant-loop-head : goal.invariant-loop-head
invariant-loop-head l =
    (l.out ++ map (moved_head l.m) (drop l.head-index l.heads) ≡ map (moved_head l.m) l.heads)
    × (list_all (head_moves l.m) (drop l.head-index l.heads) ≡ list_all (head_moves l.m) l.heads)
