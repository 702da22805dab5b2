use Rattle.std.proofs.Common.{◌∙◌, sym, ap}
use Rattle.mus_onsets.specs.Order.{key_rank}
use Rattle.mus_onsets.proofs.RankLaws.{rank_at_place}
use Rattle.mus_onsets.proofs.Rising.{same_from_eq}
use Rattle.mus_onsets.proofs.ranks.next_rank.Goals.{in-Some, in_default}
use Rattle.mus_onsets.proofs.ranks.next_rank.Goals as goal

pub returns : goal.returns
returns c = elim c.match-get.branch [
  | in-Some w ↦
      w.rank-is
      ∙ sym (rank_at_place c.args.keys.now c.args.near.now w.in-Some.found.now c.requires.rise
      w.in-Some.ensures.lookup.3.0)
      ∙ ap (key_rank c.args.keys.now)
      (sym w.in-Some.ensures.lookup.1 ∙ same_from_eq w.in-Some.found.now c.args.key (sym w.eq.ensures ∙ w.if-eq.true))
  | in_default w ↦ w.rank-is ∙ w.rank_of-rank.ensures
]
