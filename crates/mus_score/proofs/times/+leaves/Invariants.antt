use Rattle.std.proofs.Common.{◌≡◌, ◌++◌, map, true, drop}
use Rattle.mus_score.specs.Times.{all_products_fit, in_row, leaves_within}
use Rattle.mus_score.proofs.times.+leaves.Given as goal

abbrev pub invariant-put_nodes-loop-m : goal.invariant-put_nodes-loop-m
invariant-put_nodes-loop-m l = record {
  flats : l.out ++ (in_row (map leaves_within (drop l.m-index l.body)) l.qs l.ps l.waits).flats
      ≡ l.fn.out ++ (in_row (map leaves_within l.body) l.qs l.ps l.fn.waits).flats;
  waits : (in_row (map leaves_within (drop l.m-index l.body)) l.qs l.ps l.waits).waits
      ≡ (in_row (map leaves_within l.body) l.qs l.ps l.fn.waits).waits;
  products : all_products_fit (drop l.m-index l.body) l.qs l.ps ≡ true;
}
