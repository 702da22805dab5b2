use Rattle.std.proofs.Common.{Ok}
use Rattle.std.proofs.lemmas.Result.{IfOk-weaker, IfErr-weaker}
use Rattle.abc_lines.specs.Results.{IsOnlyFault, IsOnlyResult}
use Rattle.abc_score.specs.Build.{IsScoreResult}
use Rattle.abc_score.proofs.OneScore.{one_score, only_fault}
use Rattle.abc_score.proofs.building.build.Goals as goal

pub returns-clause-only : goal.returns-clause-only
returns-clause-only c =
    let header = c.args.header.now in
    let tune = c.args.tune.now in
    IfOk-weaker c.tune_score.result _ (λ score. IsOnlyResult (IsScoreResult header tune c.args.flow) (Ok score))
    (λ score is. one_score header tune c.args.flow (Ok score) is)
    c.tune_score.ensures.score

pub returns-clause-only_fault : goal.returns-clause-only_fault
returns-clause-only_fault c =
    let header = c.args.header.now in
    let tune = c.args.tune.now in
    IfErr-weaker c.tune_score.result _ (IsOnlyFault (IsScoreResult header tune c.args.flow))
    (only_fault header tune c.args.flow) c.tune_score.ensures.fault
