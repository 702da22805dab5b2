use Rattle.std.proofs.Common.{◌≡◌, ◌++◌, drop}
use Rattle.mus_transpose.specs.Moved.{body_by, body_may}
use Rattle.mus_transpose.proofs.trees.+trees.Given as goal

abbrev pub invariant-body_by-loop-node : goal.invariant-body_by-loop-node
invariant-body_by-loop-node l =
    (l.out ++ body_by l.by (drop l.node-index l.body) ≡ body_by l.by l.body)
    × (body_may l.by (drop l.node-index l.body) ≡ body_may l.by l.body)
