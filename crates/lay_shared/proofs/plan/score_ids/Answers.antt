use Rattle.std.proofs.{Common.{◌≡◌, ◌≢◌, ◌<◌, ◌^◌, AllPairs, IfOk, length, map, subst, sym}, lemmas.Result.IfOk-weaker}
use Rattle.mus_score.specs.declared.score.Voice.{Voice}
use Rattle.lay_shared.specs.Plans.{score_ids}
use Rattle.lay_shared.proofs.PlanLaws.{apart_ids, few_ids}
use Rattle.lay_shared.proofs.plan.score_ids.Goals as goal

pub returns-clause-few : goal.returns-clause-few
returns-clause-few c =
    IfOk-weaker c.ids_of_voices.result (λ ids. ids ≡ score_ids c.args.s.now) (λ ids. length ids < 2 ^ 32)
    (λ ids e. subst (λ i. length i < 2 ^ 32) (sym e) (few_ids c.args.s.now c.requires))
    (subst (λ vs. IfOk c.ids_of_voices.result (λ ids. ids ≡ map (λ (v : Voice). v.id) vs)) c.as_slice.ensures
    c.ids_of_voices.ensures)

pub returns-clause-apart : goal.returns-clause-apart
returns-clause-apart c =
    IfOk-weaker c.ids_of_voices.result (λ ids. ids ≡ score_ids c.args.s.now) (λ ids. AllPairs (λ i j. i ≢ j) ids)
    (λ ids e. subst (λ ids. AllPairs (λ i j. i ≢ j) ids) (sym e) (apart_ids c.args.s.now c.requires))
    (subst (λ vs. IfOk c.ids_of_voices.result (λ ids. ids ≡ map (λ (v : Voice). v.id) vs)) c.as_slice.ensures
    c.ids_of_voices.ensures)
