use Rattle.std.{proofs.Common.◌≡◌, proofs.Common.[], proofs.Common.map, specs.List.range_with_len}
use Rattle.mus_laid.specs.Ranked.{at_rank}
use Rattle.mus_laid.proofs.columns.empty_columns.Given as goal

abbrev pub invariant-loop-i : goal.invariant-loop-i
invariant-loop-i l = l.columns ≡ map (at_rank []) (range_with_len 0 l.i)
