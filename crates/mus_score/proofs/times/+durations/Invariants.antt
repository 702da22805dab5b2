use Rattle.std.proofs.Common.{◌≡◌, ◌+◌, true, drop}
use Rattle.mus_score.specs.Times.{durations_within, all_products_fit}
use Rattle.mus_score.proofs.times.+durations.Given as goal

abbrev pub invariant-durations_in-loop-m : goal.invariant-durations_in-loop-m
invariant-durations_in-loop-m l = record {
  sum : l.sum + durations_within (drop l.m-index l.body) l.qs l.ps ≡ durations_within l.body l.qs l.ps;
  products : all_products_fit (drop l.m-index l.body) l.qs l.ps ≡ true;
}
