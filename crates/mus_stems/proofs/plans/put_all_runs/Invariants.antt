use Rattle.std.proofs.Common.{◌≡◌, ◌++◌, length}
use Rattle.mus_stems.specs.{Beams.beams, Plans.plans_of_runs, Stills.AllGood}
use Rattle.mus_stems.proofs.plans.put_all_runs.Given as goal

abbrev pub invariant-loop-d : goal.invariant-loop-d
invariant-loop-d l = record {
  good : AllGood l.rest;
  plans : l.out ++ plans_of_runs l.wish (beams l.rest) ≡ l.fn.out ++ plans_of_runs l.wish (beams l.events);
}

abbrev pub decreases-loop-d : goal.decreases-loop-d
decreases-loop-d l = length l.rest
