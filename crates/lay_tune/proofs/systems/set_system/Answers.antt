use Rattle.std.proofs.Common.{◌≡◌, ◌∙◌, map, subst, sym, ap, arith, length}
use Rattle.std.proofs.lemmas.List.{length-map}
use Rattle.std.proofs.lemmas.Option.{same_Some}
use Rattle.mus_onsets.specs.Keys.{AreKeys, called_keys}
use Rattle.mus_onsets.specs.Onsets.{timeline_of}
use Rattle.mus_marks.specs.System.{IsCall, drawn_staves}
use Rattle.mus_marks.specs.Tilt.{AreAbscissas, IsTilted, tilted_staff}
use Rattle.lay_tune.specs.Systems.{HaveForce, IsPlaced, gaps_between}
use Rattle.lay_tune.proofs.Called.{has_system}
use Rattle.lay_tune.proofs.Open.{gaps_count, staves_count}
use Rattle.lay_tune.proofs.Rows.{good_staves}
use Rattle.lay_tune.proofs.Within.{abscissas_of, placed_ends, span_set}
use Rattle.lay_tune.proofs.systems.set_system.Goals as goal

pub press-requires : goal.press-requires
press-requires c =
    let force : c.requires.fits.force ≡ c.in-Some.force =
    same_Some c.requires.fits.force c.in-Some.force
    (sym c.requires.fits.pressed_so ∙ (sym c.force.ensures ∙ c.in-Some.is)) in
    record {
      fits =
          subst (λ force.
          HaveForce c.args.measured.now.measures.now.gaps.list.now c.args.measured.now.width force
          (map (λ s. s.column.now) c.as_slice-columns.result.now))
          force
          (span_set c.args.measured.now.measures.now.starts.now c.args.measured.now.measures.now.others.now
          (map (λ s. s.column.now) c.as_slice-columns.result.now) c.requires.fits c.requires.measured.columns
          c.requires.measured.gaps
          (ap (map (λ s. s.column.now)) c.as_slice-columns.ensures ∙ c.in_ok-seen.ensures)).0;
    }

pub tilt_of-requires-clause-keys : goal.tilt_of-requires-clause-keys
tilt_of-requires-clause-keys c =
    let s = c.args.measured.now.drawn.score.now in
    subst (λ t. AreKeys c.in_ok-keys.keys (called_keys s t.lengths c.args.a c.args.b))
    (sym c.args.measured.now.drawn.timed)
    (subst (λ keys. AreKeys keys (called_keys s (timeline_of s).lengths c.args.a c.args.b)) (sym c.in_ok-keys.ensures)
    (span_set c.args.measured.now.measures.now.starts.now c.args.measured.now.measures.now.others.now
    (map (λ s. s.column.now) c.as_slice-columns.result.now) c.requires.fits c.requires.measured.columns
    c.requires.measured.gaps
    (ap (map (λ s. s.column.now)) c.as_slice-columns.ensures ∙ c.in_ok-seen.ensures)).2)

pub tilt_of-requires-clause-places : goal.tilt_of-requires-clause-places
tilt_of-requires-clause-places c =
    let s = c.args.measured.now.drawn.score.now in
    let placed = (span_set c.args.measured.now.measures.now.starts.now c.args.measured.now.measures.now.others.now
    (map (λ s. s.column.now) c.as_slice-columns.result.now) c.requires.fits c.requires.measured.columns
    c.requires.measured.gaps
    (ap (map (λ s. s.column.now)) c.as_slice-columns.ensures ∙ c.in_ok-seen.ensures)).1 c.in_ok-placed.placed
    c.in_ok-placed.ensures in
    let narrow = c.requires.measured.wide in let flat = has_system s c.args.a c.args.b in
    subst (λ at. AreAbscissas s c.args.measured.now.drawn.times.now c.args.a c.args.b at) (sym c.as_slice-at.ensures)
    (subst (λ t. AreAbscissas s t c.args.a c.args.b c.in_ok-placed.placed.at) (sym c.args.measured.now.drawn.timed)
    (abscissas_of s c.args.measured.now.width c.args.a c.args.b flat.0 c.in_ok-placed.placed (omega arith) flat.1
    placed))

pub stack-requires-clause-good : goal.stack-requires-clause-good
stack-requires-clause-good c = good_staves c.in_ok-marks.marks.staves c.in_ok-marks.ensures.lines

pub stack-requires-clause-few : goal.stack-requires-clause-few
stack-requires-clause-few c =
    let count = ap (λ these. length these) c.in_ok-marks.ensures.tilted.staves
    ∙ length-map (drawn_staves c.args.measured.now.drawn.score.now)
    (tilted_staff c.in_ok-marks.marks.keys c.args.measured.now.drawn.times.now.lengths c.as_slice-at.result.now c.args.a
    c.args.b) in
    let staves = staves_count c.args.measured.now.drawn.score.now in
    let voices = c.args.measured.now.drawn.good.few_voices in
    omega (arith, count, staves, voices)

pub stack-requires-clause-gaps : goal.stack-requires-clause-gaps
stack-requires-clause-gaps c =
    gaps_count c.args.measured.now.drawn.score.now c.in_ok-marks.marks c.as_slice-2.result.now
    (tilted_staff c.in_ok-marks.marks.keys c.args.measured.now.drawn.times.now.lengths c.as_slice-at.result.now c.args.a
    c.args.b)
    (c.as_slice-2.ensures ∙ c.in_ok-between.ensures ∙ ap gaps_between c.as_slice.ensures)
    c.in_ok-marks.ensures.tilted.staves

pub returns-clause-system : goal.returns-clause-system
returns-clause-system c =
    let s = c.args.measured.now.drawn.score.now in let flat = has_system s c.args.a c.args.b in
    let tilted = c.in_ok-marks in
    let placed : IsPlaced s c.args.measured.now.width flat.0 c.in_ok-placed.placed =
    (span_set c.args.measured.now.measures.now.starts.now c.args.measured.now.measures.now.others.now
    (map (λ s. s.column.now) c.as_slice-columns.result.now) c.requires.fits c.requires.measured.columns
    c.requires.measured.gaps
    (ap (map (λ s. s.column.now)) c.as_slice-columns.ensures ∙ c.in_ok-seen.ensures)).1 c.in_ok-placed.placed
    c.in_ok-placed.ensures in
    record {
      flat = flat.0;
      called = flat.1;
      placed = placed;
      ends = placed_ends s c.args.measured.now.width c.args.a c.args.b flat.0 c.in_ok-placed.placed
          c.args.measured.now.drawn.good c.requires.measured.heard c.requires.fits.rises c.requires.fits.within flat.1
          placed;
      tilted =
          subst (λ t. IsTilted s t c.args.a c.args.b c.in_ok-placed.placed.at tilted.marks)
          c.args.measured.now.drawn.timed
          (subst (λ at. IsTilted s c.args.measured.now.drawn.times.now c.args.a c.args.b at tilted.marks)
          c.as_slice-at.ensures tilted.ensures.tilted);
      alike =
          tilted.ensures.alike flat.0
          (subst (λ t. IsCall s t c.args.a c.args.b flat.0) (sym c.args.measured.now.drawn.timed) flat.1);
    }
