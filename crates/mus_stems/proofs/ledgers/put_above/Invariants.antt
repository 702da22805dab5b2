use Rattle.std.proofs.Common.{◌≡◌, ◌++◌, ◌-◌}
use Rattle.mus_stems.specs.Ledgers.{ledger_lines, line_above}
use Rattle.mus_stems.proofs.ledgers.put_above.Given as goal

abbrev pub invariant-loop-k : goal.invariant-loop-k
invariant-loop-k l =
    l.out ++ ledger_lines line_above l.k (l.k-end - l.k) ≡ l.fn.out ++ ledger_lines line_above 0 l.k-end
