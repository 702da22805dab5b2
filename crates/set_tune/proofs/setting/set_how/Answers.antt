use Rattle.std.proofs.Common.{ap}
use Rattle.set_tune.specs.Terms.{manner_of, terms_of}
use Rattle.set_tune.proofs.Laid.{few_titles, heard_moved}
use Rattle.set_tune.proofs.Refusals.{laid_tune, layout_refused, score_refused, tall_refused, tune_set}
use Rattle.set_tune.proofs.setting.set_how.Goals as goal

pub returns-in-Err-clause-fault : goal.returns-in-Err-clause-fault
returns-in-Err-clause-fault g c =
    score_refused c.args.tune.now (terms_of c.args.defaults.now c.args.paper.now c.args.how) c.in-Err.error
    c.in-Err.ensures.fault

pub lay_out_score-requires-clause-titles : goal.lay_out_score-requires-clause-titles
lay_out_score-requires-clause-titles g c κs within =
    (few_titles c.args.tune.now c.args.defaults.now c.in-Ok.read.0 c.requires.tune
    c.in-Ok.ensures.score.is.read.value).0

pub lay_out_score-requires-clause-composers : goal.lay_out_score-requires-clause-composers
lay_out_score-requires-clause-composers g c κs within =
    (few_titles c.args.tune.now c.args.defaults.now c.in-Ok.read.0 c.requires.tune
    c.in-Ok.ensures.score.is.read.value).1

pub lay_out_score-requires-clause-heard : goal.lay_out_score-requires-clause-heard
lay_out_score-requires-clause-heard g c κs within =
    heard_moved c.args.tune.now c.args.defaults.now (manner_of c.args.how) c.in-Ok.read.0 c.in-Ok.read.1
    c.in-Ok.ensures.score

pub returns-in-Ok-lay_out_score-clause-set : goal.returns-in-Ok-lay_out_score-clause-set
returns-in-Ok-lay_out_score-clause-set g c =
    tune_set c.args.tune.now (terms_of c.args.defaults.now c.args.paper.now c.args.how) c.body_of-width.result.1
    c.in-Ok-lay_out_score.laid c.on_pages.result
    (laid_tune c.args.tune.now (terms_of c.args.defaults.now c.args.paper.now c.args.how) c.in-Ok.read.0 c.in-Ok.read.1
    c.body_of-width.result.0 c.in-Ok-lay_out_score.laid
    c.in-Ok.ensures.score (ap (λ (p : _ × _). p.0) c.body_of-width.ensures) c.in-Ok-lay_out_score.ensures.laid)
    (ap (λ (p : _ × _). p.1) c.body_of-width.ensures) c.on_pages.ensures.same c.on_pages.ensures.fits

pub returns-in-Ok-lay_out_score-clause-fault : goal.returns-in-Ok-lay_out_score-clause-fault
returns-in-Ok-lay_out_score-clause-fault g c =
    tall_refused c.args.tune.now (terms_of c.args.defaults.now c.args.paper.now c.args.how) c.body_of-width.result.1
    c.in-Ok-lay_out_score.laid c.on_pages.result
    (laid_tune c.args.tune.now (terms_of c.args.defaults.now c.args.paper.now c.args.how) c.in-Ok.read.0 c.in-Ok.read.1
    c.body_of-width.result.0 c.in-Ok-lay_out_score.laid
    c.in-Ok.ensures.score (ap (λ (p : _ × _). p.0) c.body_of-width.ensures) c.in-Ok-lay_out_score.ensures.laid)
    (ap (λ (p : _ × _). p.1) c.body_of-width.ensures) c.on_pages.ensures.tall

pub returns-in-Err-lay_out_score-clause-fault : goal.returns-in-Err-lay_out_score-clause-fault
returns-in-Err-lay_out_score-clause-fault g c =
    layout_refused c.args.tune.now (terms_of c.args.defaults.now c.args.paper.now c.args.how) c.in-Ok.read.0
    c.in-Ok.read.1 c.body_of-width.result.0 c.in-Err-lay_out_score.error
    c.in-Ok.ensures.score (ap (λ (p : _ × _). p.0) c.body_of-width.ensures) c.in-Err-lay_out_score.ensures.fault
