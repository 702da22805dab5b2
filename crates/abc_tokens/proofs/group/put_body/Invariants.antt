use Rattle.std.proofs.Common.{◌≡◌, ◌++◌, drop, ℕ, List}
use Rattle.abc_tokens.specs.Plain.{all_then, grace_chord_then}
use Rattle.abc_tokens.proofs.group.put_body.Given as goal

abbrev pub invariant-loop-chord : goal.invariant-loop-chord
invariant-loop-chord l =
    (x : List ℕ)
    → l.out ++ all_then grace_chord_then (drop l.chord-index l.body) x ≡ l.fn.out ++ all_then grace_chord_then l.body x
