use Rattle.std.{proofs.Common.◌≡◌, proofs.Common.◌++◌, proofs.Common.◌-◌, proofs.Common.map, specs.List.range_with_len}
use Rattle.ps_heard.specs.Tunes.{most_staves, staff_heard}
use Rattle.ps_heard.proofs.sheets.hear_tune.Given as goal

abbrev pub invariant-loop-k : goal.invariant-loop-k
invariant-loop-k l = record {
  end : l.k-end ≡ most_staves l.systems;
  lists : l.out ++ map (staff_heard l.spread l.systems) (range_with_len l.k (l.k-end - l.k))
      ≡ map (staff_heard l.spread l.systems) (range_with_len 0 (most_staves l.systems));
}
