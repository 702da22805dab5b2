use Rattle.std.{proofs.Common.{◌≡◌, ◌+◌, ◌++◌, drop}, specs.List.sum_by}
use Rattle.mus_onsets.specs.Beats.{beat_onsets}
use Rattle.mus_onsets.proofs.times.put_beats.Given as goal

abbrev pub invariant-loop-b : goal.invariant-loop-b
invariant-loop-b l = record {
  onsets : l.out ++ beat_onsets l.voice l.measure l.tick (drop l.b-index l.beats)
      ≡ l.fn.out ++ beat_onsets l.voice l.measure 0 l.beats;
  left : l.tick + sum_by (λ b. b.ticks) (drop l.b-index l.beats) ≡ sum_by (λ b. b.ticks) l.beats;
}
