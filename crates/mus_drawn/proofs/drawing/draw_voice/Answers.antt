use Rattle.std.proofs.Common.{subst, sym}
use Rattle.mus_units.specs.Good.{IsGoodKey}
use Rattle.mus_score.specs.GoodScore.{events_of}
use Rattle.mus_drawn.specs.Good.{AllCanDraw}
use Rattle.mus_drawn.proofs.GoodLaws.{voice_can_draw}
use Rattle.mus_drawn.proofs.drawing.draw_voice.Goals as goal

pub draw_measures-requires-clause-key : goal.draw_measures-requires-clause-key
draw_measures-requires-clause-key c = subst (λ n. IsGoodKey n.key) (sym c.in_ok-now.ensures) c.requires.key

pub draw_measures-requires-clause-events : goal.draw_measures-requires-clause-events
draw_measures-requires-clause-events c =
    subst (λ ms. AllCanDraw (events_of ms)) (sym c.as_slice.ensures)
    (voice_can_draw c.args.v.now.verses (events_of c.args.v.now.measures) c.requires.few_verses c.requires.events)
