use Rattle.std.proofs.Common.{◌∙◌, refl, ap, drop}
use Rattle.abc_score.proofs.{Ids.few_ids, Lines.words_rise_after}
use Rattle.abc_score.proofs.building.tune_score.Goals as goal

pub score_in-requires-clause-rise : goal.score_in-requires-clause-rise
score_in-requires-clause-rise c =
    let k = c.args.header.now.body in
    words_rise_after c.args.tune.now.lines k c.requires.tune.rise
    (c.split_at.ensures.back ∙ ap (drop k) c.as_slice.ensures) c.in-Ok.ensures.items refl

pub score_in-requires-clause-few : goal.score_in-requires-clause-few
score_in-requires-clause-few c =
    few_ids c.args.header.now c.split_at.result.1.now c.in-Ok.items c.requires.header.0 c.in-Ok.ensures.items
