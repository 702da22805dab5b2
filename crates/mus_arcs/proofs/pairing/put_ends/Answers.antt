use Rattle.{std.proofs.{Common.arith, lemmas.Grind.common_steps}, mus_arcs.proofs.ArcLaws.{copies-more}}
use Rattle.mus_arcs.proofs.pairing.put_ends.Goals as goal

pub times-preserved : goal.times-preserved
times-preserved c = grind (arith, common_steps, copies-more)
