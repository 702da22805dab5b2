use Rattle.std.{proofs.Common.◌≡◌, proofs.Common.drop, specs.List.list_all}
use Rattle.{mus_score.specs.GoodScore.{events_of}, mus_transpose.specs.Moved.{are_in_reach}}
use Rattle.mus_transpose.proofs.scores.all_in_reach.Given as goal

abbrev pub invariant-loop-v : goal.invariant-loop-v
invariant-loop-v l =
    list_all (λ v. are_in_reach v.clef (events_of v.measures)) (drop l.v-index l.voices)
    ≡ list_all (λ v. are_in_reach v.clef (events_of v.measures)) l.voices
