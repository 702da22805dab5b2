use Rattle.std.{proofs.Common.◌≡◌, proofs.Common.◌++◌, proofs.Common.drop, specs.List.flat_map}
use Rattle.{mus_drawn.specs.Good.{AreGoodDrawn}, mus_bridges.specs.Bridges.{event_grace_beam}}
use Rattle.mus_bridges.proofs.beams.put_measure_grace_beams.Given as goal

abbrev pub invariant-loop-e : goal.invariant-loop-e
invariant-loop-e l = record {
  marks : l.out ++ flat_map (event_grace_beam l.measure) (drop l.e-index l.events)
      ≡ l.fn.out ++ flat_map (event_grace_beam l.measure) l.events;
  good : AreGoodDrawn (drop l.e-index l.events);
}
