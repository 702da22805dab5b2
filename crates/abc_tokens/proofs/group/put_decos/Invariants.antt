use Rattle.std.proofs.Common.{◌≡◌, ◌++◌, drop, ℕ, List}
use Rattle.abc_tokens.specs.Plain.{all_then, deco_then}
use Rattle.abc_tokens.proofs.group.put_decos.Given as goal

abbrev pub invariant-loop-deco : goal.invariant-loop-deco
invariant-loop-deco l =
    (x : List ℕ) → l.out ++ all_then deco_then (drop l.deco-index l.decos) x ≡ l.fn.out ++ all_then deco_then l.decos x
