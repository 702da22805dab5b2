use Rattle.std.proofs.Common.{◌≡◌, ◌++◌, drop, ℕ, List}
use Rattle.abc_tokens.specs.Plain.{all_then, head_then}
use Rattle.abc_tokens.proofs.group.put_heads.Given as goal

abbrev pub invariant-loop-head : goal.invariant-loop-head
invariant-loop-head l =
    (x : List ℕ) → l.out ++ all_then head_then (drop l.head-index l.heads) x ≡ l.fn.out ++ all_then head_then l.heads x
