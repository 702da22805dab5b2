use Rattle.std.{proofs.Common.{◌∙◌, ◌≤◌, map, refl, ap, subst, sym, arith}, specs.List.All}
use Rattle.mus_score.specs.Seats.{grouped}
use Rattle.mus_onsets.specs.Ranks.{AreRanked}
use Rattle.mus_laid.specs.Boxes.{AreGoodMarks}
use Rattle.mus_time.proofs.Counts.{lengths_count, voices_count}
use Rattle.mus_slots.specs.Words.{IsOrdered}
use Rattle.mus_marks.specs.Staff.{staff_marks, verses_on}
use Rattle.mus_marks.specs.System.{drawn_staves, is_drawn_lower}
use Rattle.mus_marks.proofs.Fitting.{few_verses, staves_fit}
use Rattle.mus_marks.proofs.GoodMarks.{staves_good}
use Rattle.mus_marks.proofs.SystemSlots.{voices_ordered}
use Rattle.mus_marks.proofs.systems.marks_of.Goals as goal

pub invariant_of-frame : goal.invariant_of-frame
invariant_of-frame c =
    let count = lengths_count c.args.drawn.now.score.now c.args.drawn.now.times.now c.as_slice-2.result.now
    c.as_slice-2.ensures c.args.drawn.now.timed in
    record {
      ranked = subst AreRanked (sym c.as_slice.ensures) c.in_ok-keys.ensures.ranked;
      order = c.requires.order;
      within = omega (arith, count, c.requires.within);
      few = omega (arith, count, c.args.drawn.now.good.few_measures);
    }

pub staves-requires-clause-each : goal.staves-requires-clause-each
staves-requires-clause-each c =
    voices_count c.args.drawn.now.score.now c.args.drawn.now.times.now c.as_slice-2.result.now c.as_slice-2.ensures
    c.args.drawn.now.timed
    c.args.drawn.now.voices.now c.args.drawn.now.good c.args.drawn.now.drawn

pub returns-clause-call : goal.returns-clause-call
returns-clause-call c = record {
  from = refl;
  to = refl;
  keys = c.in_ok-keys.ensures.keys;
  staves =
      c.in_ok-staves.ensures.staves
      ∙ ap (λ ks.
      map (staff_marks ks c.as_slice-2.result.now c.args.a c.args.b)
      (grouped is_drawn_lower c.args.drawn.now.voices.now))
      c.as_slice.ensures
      ∙ ap (λ ls.
      map (staff_marks c.in_ok-keys.keys ls c.args.a c.args.b) (grouped is_drawn_lower c.args.drawn.now.voices.now))
      c.as_slice-2.ensures
      ∙ ap (λ vs.
      map (staff_marks c.in_ok-keys.keys c.args.drawn.now.times.now.lengths c.args.a c.args.b)
      (grouped is_drawn_lower vs))
      c.args.drawn.now.drawn;
}

pub returns-clause-good : goal.returns-clause-good
returns-clause-good c =
    let call = returns-clause-call c in
    subst (λ ss. All (λ s. AreGoodMarks s.marks) ss) (sym call.staves)
    (staves_good c.in_ok-keys.keys c.args.drawn.now.times.now.lengths c.args.a c.args.b
    (drawn_staves c.args.drawn.now.score.now)
    (staves_fit c.args.drawn.now.score.now c.args.drawn.now.good))

pub staves-requires-clause-verses : goal.staves-requires-clause-verses
staves-requires-clause-verses c =
    subst (λ vs. verses_on vs ≤ 128) (sym c.args.drawn.now.drawn)
    (few_verses c.args.drawn.now.score.now c.args.drawn.now.good)

pub staves-requires-clause-ordered : goal.staves-requires-clause-ordered
staves-requires-clause-ordered c =
    subst (λ ks. All (IsOrdered ks c.as_slice-2.result.now c.args.a c.args.b) c.args.drawn.now.voices.now)
    (sym c.as_slice.ensures)
    (subst (λ ls. All (IsOrdered c.in_ok-keys.keys ls c.args.a c.args.b) c.args.drawn.now.voices.now)
    (sym c.as_slice-2.ensures)
    (subst (All (IsOrdered c.in_ok-keys.keys c.args.drawn.now.times.now.lengths c.args.a c.args.b))
    (sym c.args.drawn.now.drawn)
    (voices_ordered c.args.drawn.now.score.now c.args.drawn.now.times.now c.args.a c.args.b c.in_ok-keys.keys
    c.args.drawn.now.timed c.args.drawn.now.good
    c.requires.order c.requires.within c.in_ok-keys.ensures.keys)))
