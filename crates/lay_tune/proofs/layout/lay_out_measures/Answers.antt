use Rattle.std.proofs.Common.{arith, subst, sym, ◌≤◌, ℕ, None, slice_index_or}
use Rattle.lay_breaks.specs.{Breaking.{IsChosen, IsPotential}, Spans.{AreSpans, listed}}
use Rattle.lay_spans.specs.Forced.{is_forced}
use Rattle.lay_tune.specs.Layout.{IsCauseIn}
use Rattle.lay_tune.specs.Spans.{AreSpansOf, is_forced_in}
use Rattle.lay_tune.specs.Systems.{EachSpan, IsSetSystem}
use Rattle.lay_tune.proofs.Breakings.{cause_read, least_read}
use Rattle.lay_tune.proofs.Open.{chosen_read, spans_read}
use Rattle.lay_tune.proofs.layout.lay_out_measures.Goals as goal

pub returns-in-Err-clause-no_way : goal.returns-in-Err-clause-no_way
returns-in-Err-clause-no_way g c =
    subst (λ error. IsCauseIn c.args.measured.now.drawn.score.now c.args.measured.now.width error)
    (sym c.layout_error.ensures)
    (cause_read c.args.measured.now.drawn.score.now c.args.measured.now.width c.in_ok-spans.spans.list
    c.as_slice-forced.result.now c.in-Err.error
    c.as_slice-forced.ensures
    (subst (λ n. AreSpans n c.in_ok-spans.spans.list) c.requires.count c.in_ok-spans.ensures.form)
    (spans_read c.args.measured.now.drawn.score.now c.args.measured.now.width
    c.args.measured.now.measures.now.starts.now
    c.args.measured.now.measures.now.others.now c.in_ok-spans.spans.list c.args.measured.now.measures.now.gaps.list.now
    c.as_slice-forced.result.now
    c.requires.count c.requires.gaps c.as_slice-forced.ensures
    c.requires.columns c.in_ok-spans.ensures.exact)
    c.in-Err.ensures.no_way)

pub set_systems-requires-clause-fits : goal.set_systems-requires-clause-fits
set_systems-requires-clause-fits g c =
    chosen_read c.args.measured.now.drawn.score.now c.args.measured.now.width
    c.args.measured.now.measures.now.starts.now
    c.args.measured.now.measures.now.others.now c.in_ok-spans.spans
    c.args.measured.now.measures.now.gaps.list.now c.as_slice-forced.result.now c.in-Ok.breaking.breaks
    c.as_slice-breaks.result.now
    c.requires.count c.requires.gaps
    c.as_slice-breaks.ensures c.args.measured.now.measures.now.measured c.requires.columns
    c.in_ok-spans.ensures.forces
    (let narrow = c.requires.wide in omega arith) c.in-Ok.ensures.chosen

pub returns-clause-layout : goal.returns-clause-layout
returns-clause-layout g c =
    let s = c.args.measured.now.drawn.score.now in
    let width = c.args.measured.now.width in
    let spans = c.in_ok-spans.spans.list in
    let bars = c.as_slice-forced.ensures in
    let count = c.requires.count in
    let exact : AreSpansOf s width spans = spans_read s width c.args.measured.now.measures.now.starts.now
    c.args.measured.now.measures.now.others.now spans c.args.measured.now.measures.now.gaps.list.now
    c.as_slice-forced.result.now count
    c.requires.gaps bars c.requires.columns c.in_ok-spans.ensures.exact in
    let chosen : IsChosen (listed spans) (is_forced_in s) s.measures c.in-Ok.breaking.breaks =
    subst (λ forced. IsChosen (listed spans) (is_forced s.measures forced) s.measures c.in-Ok.breaking.breaks) bars
    c.in-Ok.ensures.chosen in
    record {
      form = subst (λ n. AreSpans n spans) count c.in_ok-spans.ensures.form;
      spans = exact;
      chosen = chosen;
      total = c.in-Ok.ensures.total;
      least = least_read s width spans c.as_slice-forced.result.now c.in-Ok.breaking.breaks c.in-Ok.breaking.total bars
          exact c.in-Ok.ensures.chosen c.in-Ok.ensures.total;
      one_each = c.in-Ok.ensures.one_each;
      potentials =
          subst (λ forced.
          (i : ℕ) → i ≤ s.measures
          → IsPotential (listed spans) (is_forced s.measures forced) i
          (slice_index_or c.in-Ok.breaking.potentials i None))
          bars c.in-Ok.ensures.potentials;
      systems =
          subst (λ breaks. EachSpan (IsSetSystem s width) 0 breaks c.in_ok-set.set.marks c.in_ok-set.set.placed)
          c.as_slice-breaks.ensures c.in_ok-set.ensures.systems;
      heights = c.in_ok-set.ensures.heights;
      texts = c.in_ok-set.ensures.good;
    }
