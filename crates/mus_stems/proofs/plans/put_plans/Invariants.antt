use Rattle.std.proofs.Common.{◌≡◌, ◌++◌, drop}
use Rattle.mus_stems.specs.{Plans.plans_along, Stills.AllGood}
use Rattle.mus_stems.proofs.plans.put_plans.Given as goal

abbrev pub invariant-loop-e : goal.invariant-loop-e
invariant-loop-e l = record {
  good : AllGood (drop l.e-index l.run);
  plans : l.out ++ plans_along l.up l.to l.group (drop l.e-index l.run)
      ≡ l.fn.out ++ plans_along l.up l.to l.group l.run;
}
