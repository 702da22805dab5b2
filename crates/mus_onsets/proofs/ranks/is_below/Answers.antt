use Rattle.std.proofs.Common.{◌∙◌}
use Rattle.mus_onsets.proofs.RankLaws.{below_is}
use Rattle.mus_onsets.proofs.ranks.is_below.Goals as goal

pub returns : goal.returns
returns c = c.lt.ensures ∙ below_is c.args.key.now c.args.other
