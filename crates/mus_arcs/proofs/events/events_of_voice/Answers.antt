use Rattle.mus_score.specs.Limits.{head_limit}
use Rattle.std.proofs.Common.{◌≡◌, length, ◌≤◌, sym, subst, arith}
use Rattle.std.proofs.lemmas.Grind.{common_steps}
use Rattle.std.specs.List.{All}
use Rattle.mus_arcs.{specs.Events.events_of_voice, proofs.EventLaws.walked, proofs.HeadLaws.few_heads}
use Rattle.mus_arcs.proofs.events.events_of_voice.Goals as goal

pub returns-clause-events : goal.returns-clause-events
returns-clause-events c = grind (arith, common_steps, walked)

pub returns-clause-heads : goal.returns-clause-heads
returns-clause-heads c =
    let is : c.put_measures.new.events ≡ events_of_voice c.args.v.now = grind (arith, common_steps, walked) in
    subst (All (λ e. length e.heads ≤ head_limit)) (sym is) (few_heads c.args.v.now c.requires.bodies)
