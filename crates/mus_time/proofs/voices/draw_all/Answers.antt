use Rattle.std.proofs.Common.{◌≡◌, ◌∙◌, ◌+◌, ◌++◌, ◌∷◌, [], map, drop, append_assoc, ap, subst, sym, arith}
use Rattle.std.proofs.lemmas.List.{drop_more}
use Rattle.std.proofs.lemmas.List.Elements.{All-push}
use Rattle.std.specs.List.{All}
use Rattle.mus_drawn.specs.{Drawn.drawn_voice, Good.AreGoodMeasures}
use Rattle.mus_time.proofs.voices.draw_all.Goals as goal

pub loop-v-preserved : goal.loop-v-preserved
loop-v-preserved c =
    let all = c.args.voices.now in let i = c.loop-v.v-index in let v = c.v-item.result in
    let cut : drop i all ≡ v ∷ drop (i + 1) all =
    drop_more all i v (omega arith) ∙ ap (λ w. w ∷ drop (i + 1) all) (sym c.v-item.is) in
    let following = map drawn_voice (drop (i + 1) all) in
    record {
      voices =
          ap (λ t. t ++ following) c.in_ok-push.ensures.ok
          ∙ append_assoc c.loop-v.drawn (c.in_ok-draw_voice.field-0 ∷ []) following
          ∙ ap (λ w. c.loop-v.drawn ++ w ∷ following) c.in_ok-draw_voice.ensures.voice
          ∙ ap (λ t. c.loop-v.drawn ++ map drawn_voice t) (sym cut)
          ∙ c.loop-v.invariant.voices;
      good =
          subst (All (λ w. AreGoodMeasures w.measures)) (sym c.in_ok-push.ensures.ok)
          (All-push (λ w. AreGoodMeasures w.measures) c.loop-v.drawn c.in_ok-draw_voice.field-0 c.loop-v.invariant.good
          c.in_ok-draw_voice.ensures.good);
    }
