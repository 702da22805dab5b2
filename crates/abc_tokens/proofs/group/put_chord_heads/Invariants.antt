use Rattle.std.proofs.Common.{◌≡◌, ◌++◌, drop, ℕ, List}
use Rattle.abc_tokens.specs.Plain.{all_then, chord_head_then}
use Rattle.abc_tokens.proofs.group.put_chord_heads.Given as goal

abbrev pub invariant-loop-pair : goal.invariant-loop-pair
invariant-loop-pair l =
    (x : List ℕ)
    → l.out ++ all_then chord_head_then (drop l.pair-index l.heads) x ≡ l.fn.out ++ all_then chord_head_then l.heads x
