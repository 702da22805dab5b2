use Rattle.std.proofs.Common.{◌≡◌, ◌++◌, map, true, drop}
use Rattle.{mus_score.specs.Times.{all_products_fit}, mus_onsets.specs.Beats.{beats_in_row, beats_within}}
use Rattle.mus_onsets.proofs.beats.+walk.Given as goal

abbrev pub invariant-put_nodes-loop-m : goal.invariant-put_nodes-loop-m
invariant-put_nodes-loop-m l = record {
  beats : l.out ++ beats_in_row (map beats_within (drop l.m-index l.body)) l.qs l.ps
      ≡ l.fn.out ++ beats_in_row (map beats_within l.body) l.qs l.ps;
  products : all_products_fit (drop l.m-index l.body) l.qs l.ps ≡ true;
}
