use Rattle.std.{proofs.Common.◌≡◌, proofs.Common.◌++◌, proofs.Common.drop, proofs.Common.map, specs.List.All}
use Rattle.mus_drawn.specs.{Drawn.drawn_voice, Good.AreGoodMeasures}
use Rattle.mus_time.proofs.voices.draw_all.Given as goal

abbrev pub invariant-loop-v : goal.invariant-loop-v
invariant-loop-v l = record {
  voices : l.drawn ++ map drawn_voice (drop l.v-index l.voices) ≡ map drawn_voice l.voices;
  good : All (λ v. AreGoodMeasures v.measures) l.drawn;
}
