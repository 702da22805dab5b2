use Rattle.std.proofs.Common.{subst, sym}
use Rattle.mus_stems.specs.Slope.{shares_beam, beam_ends, IsAnchor, AreAnchors, RisesInBeams}
use Rattle.mus_stems.proofs.RunLaws.{run_step, all_drop}
use Rattle.mus_stems.proofs.SlopeLaws.{beam_rises, rise_after}
use Rattle.mus_stems.proofs.slopes.ends_for.Goals as goal

pub put_beam-requires-clause-rise : goal.put_beam-requires-clause-rise
put_beam-requires-clause-rise c =
    beam_rises c.in-Some.a.now c.in-Some.more.now _ _ _ c.in-Some.ensures.cases.0 c.more_in_beam-n.ensures.value
    c.split_at.ensures.front c.loop-a.invariant.rise

pub loop-a-preserved : goal.loop-a-preserved
loop-a-preserved c = record {
  anchors = subst (λ t. AreAnchors t) (sym c.split_at.ensures.back) (all_drop IsAnchor _ _ c.loop-a.invariant.anchors);
  rise = subst (λ t. RisesInBeams t) (sym c.split_at.ensures.back) (rise_after _ _ c.loop-a.invariant.rise);
  ends =
      run_step shares_beam beam_ends c.in-Some.a.now c.in-Some.more.now _ _ _ _ c.loop-a.out c.put_beam.new.out _
      c.in-Some.ensures.cases.0 c.more_in_beam-n.ensures.value c.split_at.ensures.front c.split_at.ensures.back
      c.in_ok-put_beam.ensures c.loop-a.invariant.ends;
}
