use Rattle.std.proofs.Common.{◌∙◌, sym, ap}
use Rattle.mus_onsets.{specs.Order.key_rank, proofs.RankLaws.rank_at_place, proofs.Rising.same_from_eq}
use Rattle.mus_laid.proofs.ranking.found_at.Goals as goal

pub returns-in-Some : goal.returns-in-Some
returns-in-Some c =
    sym (rank_at_place c.args.keys.now c.args.place c.in-Some.found.now c.requires.rise c.in-Some.ensures.lookup.3.0)
    ∙ ap (key_rank c.args.keys.now)
    (sym c.in-Some.ensures.lookup.1 ∙ same_from_eq c.in-Some.found.now c.args.key (sym c.eq.ensures ∙ c.if-eq.true))
