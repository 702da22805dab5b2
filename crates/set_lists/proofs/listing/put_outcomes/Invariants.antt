use Rattle.std.proofs.Common.{◌≡◌, ◌++◌, take}
use Rattle.set_lists.specs.Listing.{outcomes_text}
use Rattle.set_lists.proofs.listing.put_outcomes.Given as goal

abbrev pub invariant-loop-outcome : goal.invariant-loop-outcome
invariant-loop-outcome l = l.out ≡ l.fn.out ++ outcomes_text (take l.outcome-index l.outcomes)
