use Rattle.std.proofs.Common.{◌≡◌, ◌++◌, ◌-◌}
use Rattle.mus_stems.specs.Ledgers.{ledger_lines, line_below}
use Rattle.mus_stems.proofs.ledgers.put_below.Given as goal

abbrev pub invariant-loop-k : goal.invariant-loop-k
invariant-loop-k l =
    l.out ++ ledger_lines line_below l.k (l.k-end - l.k) ≡ l.fn.out ++ ledger_lines line_below 0 l.k-end
