use Rattle.std.{proofs.Common.{◌≡◌, ◌+◌, ◌++◌, drop, map, not}, specs.List.filter}
use Rattle.{mus_score.specs.Seats.{stands_lower}, lay_tune.specs.Systems.{gaps_between}}
use Rattle.lay_tune.proofs.gaps.gaps_between.Given as goal

abbrev pub invariant-loop-v : goal.invariant-loop-v
invariant-loop-v l =
    l.gaps ++ map (λ v. v.gap) (filter (λ v. not (stands_lower v)) (drop (l.v-index + 1) l.voices))
    ≡ gaps_between l.voices
