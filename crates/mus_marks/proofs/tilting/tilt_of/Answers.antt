use Rattle.std.{proofs.Common.{◌∙◌, ◌≤◌, map, refl, ap, subst, sym, arith}, specs.List.{All, slice_range}}
use Rattle.mus_score.specs.Seats.{grouped}
use Rattle.mus_onsets.specs.Ranks.{AreRanked}
use Rattle.mus_drawn.specs.Good.{AreGoodMeasures}
use Rattle.mus_time.proofs.Called.{keys_placed}
use Rattle.mus_time.proofs.Counts.{lengths_count, voices_count}
use Rattle.mus_time.proofs.Few.{few_keys}
use Rattle.mus_marks.specs.Staff.{verses_on}
use Rattle.mus_marks.specs.System.{is_drawn_lower}
use Rattle.mus_slots.specs.Words.{IsOrdered}
use Rattle.mus_marks.specs.Tilt.{AllCanTilt, tilted_staff, voice_tilted}
use Rattle.mus_marks.proofs.Fitting.{few_verses}
use Rattle.mus_marks.proofs.Sloping.{voices_can}
use Rattle.mus_marks.proofs.Alike.{tilted_alike, tilted_good}
use Rattle.mus_marks.proofs.SystemSlots.{tilted_ordered}
use Rattle.mus_marks.proofs.tilting.tilt_of.Goals as goal

pub invariant_of-frame : goal.invariant_of-frame
invariant_of-frame c =
    let count = lengths_count c.args.drawn.now.score.now c.args.drawn.now.times.now c.as_slice-2.result.now
    c.as_slice-2.ensures c.args.drawn.now.timed in
    record {
      ranked =
          subst AreRanked (sym c.as_slice.ensures)
          (record {
            rise = c.requires.keys.rise;
            few =
                few_keys c.args.drawn.now.score.now c.args.drawn.now.times.now.lengths c.args.a c.args.b c.args.keys
                c.args.drawn.now.good
                c.requires.within c.requires.keys;
          });
      order = c.requires.order;
      within = omega (arith, count, c.requires.within);
      few = omega (arith, count, c.args.drawn.now.good.few_measures);
    }

pub tilted_staves-requires-clause-each : goal.tilted_staves-requires-clause-each
tilted_staves-requires-clause-each c =
    voices_count c.args.drawn.now.score.now c.args.drawn.now.times.now c.as_slice-2.result.now c.as_slice-2.ensures
    c.args.drawn.now.timed
    c.args.drawn.now.voices.now c.args.drawn.now.good c.args.drawn.now.drawn

pub tilted_staves-requires-clause-slopes : goal.tilted_staves-requires-clause-slopes
tilted_staves-requires-clause-slopes c =
    subst (λ ks.
    All (λ v. AllCanTilt ks c.args.at.now c.args.a (slice_range v.measures c.args.a c.args.b))
    c.args.drawn.now.voices.now)
    (sym c.as_slice.ensures)
    (subst (All (λ v. AllCanTilt c.args.keys c.args.at.now c.args.a (slice_range v.measures c.args.a c.args.b)))
    (sym c.args.drawn.now.drawn)
    (voices_can c.args.drawn.now.score.now c.args.drawn.now.times.now c.args.a c.args.b c.args.keys c.args.at.now
    c.requires.places c.requires.keys
    c.args.drawn.now.good c.requires.within
    (subst (All (λ v. AreGoodMeasures v.measures)) c.args.drawn.now.drawn c.args.drawn.now.measured)))

pub tilted_staves-requires-clause-verses : goal.tilted_staves-requires-clause-verses
tilted_staves-requires-clause-verses c =
    subst (λ vs. verses_on vs ≤ 128) (sym c.args.drawn.now.drawn)
    (few_verses c.args.drawn.now.score.now c.args.drawn.now.good)

pub returns-clause-tilted : goal.returns-clause-tilted
returns-clause-tilted c =
    let keys = c.args.keys in
    let lengths = c.args.drawn.now.times.now.lengths in
    let at = c.args.at.now in
    let a = c.args.a in
    let b = c.args.b in
    record {
      from = refl;
      to = refl;
      keys = c.requires.keys;
      staves =
          c.in_ok-staves.ensures.staves
          ∙ ap (λ ks.
          map (tilted_staff ks c.as_slice-2.result.now at a b) (grouped is_drawn_lower c.args.drawn.now.voices.now))
          c.as_slice.ensures
          ∙ ap (λ ls. map (tilted_staff keys ls at a b) (grouped is_drawn_lower c.args.drawn.now.voices.now))
          c.as_slice-2.ensures
          ∙ ap (λ vs. map (tilted_staff keys lengths at a b) (grouped is_drawn_lower vs)) c.args.drawn.now.drawn;
    }

pub returns-clause-alike : goal.returns-clause-alike
returns-clause-alike c =
    λ flat call.
    tilted_alike c.args.drawn.now.score.now c.args.drawn.now.times.now c.args.a c.args.b c.args.at.now _
    (returns-clause-tilted c) flat call

pub returns-clause-places : goal.returns-clause-places
returns-clause-places c =
    keys_placed c.args.drawn.now.score.now c.args.drawn.now.times.now c.args.a c.args.b c.args.keys
    c.args.drawn.now.timed c.args.drawn.now.good
    c.requires.order c.requires.within c.requires.keys

pub returns-clause-good : goal.returns-clause-good
returns-clause-good c =
    tilted_good c.args.drawn.now.score.now c.args.drawn.now.times.now c.args.a c.args.b c.args.at.now _
    (returns-clause-tilted c) c.args.drawn.now.good

pub tilted_staves-requires-clause-ordered : goal.tilted_staves-requires-clause-ordered
tilted_staves-requires-clause-ordered c =
    let at = c.args.at.now in
    let a = c.args.a in
    let b = c.args.b in
    subst (λ ks.
    All (λ v. IsOrdered ks c.as_slice-2.result.now a b (voice_tilted ks at a b v)) c.args.drawn.now.voices.now)
    (sym c.as_slice.ensures)
    (subst (λ ls.
    All (λ v. IsOrdered c.args.keys ls a b (voice_tilted c.args.keys at a b v)) c.args.drawn.now.voices.now)
    (sym c.as_slice-2.ensures)
    (subst (All (λ v. IsOrdered c.args.keys c.args.drawn.now.times.now.lengths a b (voice_tilted c.args.keys at a b v)))
    (sym c.args.drawn.now.drawn)
    (tilted_ordered c.args.drawn.now.score.now c.args.drawn.now.times.now a b c.args.keys c.args.drawn.now.timed
    c.args.drawn.now.good c.requires.order
    c.requires.within c.requires.keys at)))
