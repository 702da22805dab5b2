use Rattle.std.proofs.Common.{◌≡◌, ◌&&◌, ◌||◌, map, drop}
use Rattle.mus_score.specs.Good.{all_judged, judged_within}
use Rattle.mus_score.proofs.good.+judging.Given as goal

abbrev pub invariant-judge_all-loop-m : goal.invariant-judge_all-loop-m
invariant-judge_all-loop-m l = record {
  good : (l.all.good && (all_judged (map judged_within (drop l.m-index l.body)) l.at).good)
      ≡ (all_judged (map judged_within l.body) l.at).good;
  some : (l.all.some || (all_judged (map judged_within (drop l.m-index l.body)) l.at).some)
      ≡ (all_judged (map judged_within l.body) l.at).some;
}
