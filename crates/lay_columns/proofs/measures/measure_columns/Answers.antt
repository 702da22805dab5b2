use Rattle.std.proofs.Common.{◌≡◌, ◌∙◌, ◌+◌, ◌≤◌, ◌==◌, length, map, ap, subst, sym, arith}
use Rattle.std.specs.List.{All, Contains, slice_index}
use Rattle.mus_onsets.specs.declared.keys.Class.{Class}
use Rattle.mus_onsets.specs.Keys.{IsInSystem, key_at}
use Rattle.mus_onsets.specs.Order.{Rises}
use Rattle.mus_onsets.specs.Ranks.{AreRanked}
use Rattle.mus_score.specs.Seats.{grouped}
use Rattle.mus_time.proofs.Counts.{lengths_count, voices_count}
use Rattle.mus_marks.specs.Staff.{verses_on}
use Rattle.mus_marks.specs.System.{is_drawn_lower}
use Rattle.mus_marks.proofs.Fitting.{few_verses}
use Rattle.lay_reaches.specs.Widened.{HaveGoodMarks}
use Rattle.lay_columns.specs.Measures.{EndWithBar, keys_in, measure_staff}
use Rattle.lay_columns.proofs.Facts.{called_has_bar, end_with_bar, ok_through, places, staves_good}
use Rattle.lay_columns.proofs.measures.measure_columns.Goals as goal

pub invariant_of-frame : goal.invariant_of-frame
invariant_of-frame c =
    let count = lengths_count c.args.drawn.now.score.now c.args.drawn.now.times.now c.as_slice-2.result.now
    c.as_slice-2.ensures c.args.drawn.now.timed in
    record {
      ranked = subst AreRanked (sym c.as_slice.ensures) c.in_ok-keys.ensures.ranked;
      order = omega arith;
      within = omega (arith, count, c.requires.within);
      few = omega (arith, count, c.args.drawn.now.good.few_measures);
    }

pub range_staves-requires-clause-each : goal.range_staves-requires-clause-each
range_staves-requires-clause-each c =
    voices_count c.args.drawn.now.score.now c.args.drawn.now.times.now c.as_slice-2.result.now c.as_slice-2.ensures
    c.args.drawn.now.timed
    c.args.drawn.now.voices.now c.args.drawn.now.good c.args.drawn.now.drawn

pub range_staves-requires-clause-verses : goal.range_staves-requires-clause-verses
range_staves-requires-clause-verses c =
    subst (λ vs. verses_on vs ≤ 128) (sym c.args.drawn.now.drawn)
    (few_verses c.args.drawn.now.score.now c.args.drawn.now.good)

pub columns_in-requires-clause-good : goal.columns_in-requires-clause-good
columns_in-requires-clause-good c =
    let staves = c.as_slice-3.ensures
    ∙ c.in_ok-staves.ensures
    ∙ ap (λ vs.
    map (measure_staff (c.args.a == c.args.m) c.as_slice.result.now c.as_slice-2.result.now c.args.m)
    (grouped is_drawn_lower vs))
    c.args.drawn.now.drawn in
    subst HaveGoodMarks (sym staves)
    (staves_good c.as_slice.result.now c.as_slice-2.result.now c.args.m (c.args.a == c.args.m)
    c.args.drawn.now.score.now
    c.args.drawn.now.good)

pub returns-clause-places : goal.returns-clause-places
returns-clause-places c =
    ok_through (λ r. keys_in r ≡ c.as_slice.result.now)
    (All (λ d. IsInSystem c.args.drawn.now.times.now.lengths c.args.m (c.args.m + 1) d.key))
    (λ r e.
    places (IsInSystem c.args.drawn.now.times.now.lengths c.args.m (c.args.m + 1)) c.in_ok-keys.keys r
    c.in_ok-keys.ensures.places
    (e ∙ c.as_slice.ensures))
    c.columns_in.result c.columns_in.ensures.keys

pub returns-clause-bar : goal.returns-clause-bar
returns-clause-bar c =
    ok_through (λ r. keys_in r ≡ c.as_slice.result.now)
    (λ r. 1 ≤ length c.args.drawn.now.score.now.voices → EndWithBar r)
    (λ r e some.
    let same = e ∙ c.as_slice.ensures in
    end_with_bar c.args.drawn.now.times.now.lengths c.args.m r (subst Rises (sym same) c.in_ok-keys.ensures.keys.rise)
    (places (IsInSystem c.args.drawn.now.times.now.lengths c.args.m (c.args.m + 1)) c.in_ok-keys.keys r
    c.in_ok-keys.ensures.places
    same)
    (subst (λ ks. Contains ks (key_at c.args.m (slice_index c.args.drawn.now.times.now.lengths c.args.m) Class.Bar 0))
    (sym same)
    (c.in_ok-keys.ensures.keys.all
    (key_at c.args.m (slice_index c.args.drawn.now.times.now.lengths c.args.m) Class.Bar 0)
    (called_has_bar (c.args.a == c.args.m) c.args.drawn.now.score.now c.args.drawn.now.times.now.lengths c.args.m
    c.args.drawn.now.good some
    c.requires.within))))
    c.columns_in.result c.columns_in.ensures.keys
