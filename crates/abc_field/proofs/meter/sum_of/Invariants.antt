use Rattle.std.proofs.Common.{◌≡◌, ◌≤◌, length}
use Rattle.abc_field.specs.Meters.{with_terms, terms_after, sum_of}
use Rattle.abc_field.proofs.meter.sum_of.Given as goal

abbrev pub invariant-loop-others : goal.invariant-loop-others
invariant-loop-others l = record { sum : with_terms l.total (terms_after l.rest) ≡ sum_of l.text; small : l.total ≤ 99 }

abbrev pub decreases-loop-others : goal.decreases-loop-others
decreases-loop-others l = length l.rest
