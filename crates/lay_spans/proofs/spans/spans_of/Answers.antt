use Rattle.std.proofs.{Common.{◌≡◌, length, slice_index_or, false, sym, ◌∙◌, ap, subst}, Math.Path.fun_ext}
use Rattle.{lay_breaks.specs.Spans.{AreSpans, listed}, lay_rows.specs.Tables.{IsForceTable}}
use Rattle.lay_spans.specs.Forced.{is_forced}
use Rattle.lay_spans.specs.SpanList.{IsSpanList}
use Rattle.lay_spans.specs.Rows.{IsRowFrom, rows_spans}
use Rattle.lay_spans.proofs.Growing.{rows_are_spans, rows_have_forces, rows_tell_spans}
use Rattle.lay_spans.proofs.Listing.{rows_listed}
use Rattle.lay_spans.proofs.spans.spans_of.Goals.{In_ok-list}
use Rattle.lay_spans.proofs.spans.spans_of.Goals as goal

table : (g : _) (c : In_ok-list g)
    → IsForceTable (λ a row.
    IsRowFrom g.C.Spaced.reach_of g.C.Spring.length_of c.args.input.now.measures.now.gaps.list.now
    c.args.input.now.width
    c.args.input.now.measures.now.starts.now c.args.input.now.measures.now.others.now
    (is_forced (length c.args.input.now.measures.now.starts.now) c.args.input.now.forced.now) a row)
    (length c.args.input.now.measures.now.starts.now) c.in_ok-rows.rows.rows
table g c =
    subst (λ forced.
    IsForceTable (λ a row.
    IsRowFrom g.C.Spaced.reach_of g.C.Spring.length_of c.args.input.now.measures.now.gaps.list.now
    c.args.input.now.width
    c.args.input.now.measures.now.starts.now c.args.input.now.measures.now.others.now
    forced a row) (length c.args.input.now.measures.now.starts.now) c.in_ok-rows.rows.rows)
    (fun_ext (λ b. ap (λ marks. slice_index_or marks b false) c.as_slice.ensures ∙ c.in_ok-marks.ensures.each b))
    c.in_ok-rows.ensures

list : (g : _) (c : In_ok-list g)
    → rows_spans (length c.args.input.now.measures.now.starts.now) 0 c.in_ok-rows.rows.rows ≡
    c.in_ok-list.list
list g c =
    sym (c.in_ok-list.ensures
    ∙ (ap (λ rows. rows_spans (length rows) 0 rows) c.as_slice-2.ensures
    ∙ ap (λ n. rows_spans n 0 c.in_ok-rows.rows.rows) (table g c).count))

form : (g : _) (c : In_ok-list g)
    → AreSpans (length c.args.input.now.measures.now.starts.now)
    (rows_spans (length c.args.input.now.measures.now.starts.now) 0
    c.in_ok-rows.rows.rows)
form g c =
    rows_are_spans g.C.Spaced.reach_of g.C.Spring.length_of c.args.input.now.measures.now.gaps.list.now
    c.args.input.now.width
    c.args.input.now.measures.now.starts.now
    c.args.input.now.measures.now.others.now
    (is_forced (length c.args.input.now.measures.now.starts.now) c.args.input.now.forced.now) c.in_ok-rows.rows.rows
    (table g c)

pub invariant_of-result : goal.invariant_of-result
invariant_of-result g c =
    let made = (goal.at.invariant_of-result g c).In_ok-list in
    record {
      same = λ a b.
          rows_listed (length c.args.input.now.measures.now.starts.now) c.in_ok-rows.rows.rows (table g made).count
          (form g made)
          a b
          ∙ ap (λ spans. listed spans a b) (list g made);
    }

pub returns-clause-form : goal.returns-clause-form
returns-clause-form g c =
    let made = (goal.at.returns-clause-form g c).In_ok-list in
    subst (λ spans. AreSpans (length c.args.input.now.measures.now.starts.now) spans) (list g made) (form g made)

pub returns-clause-bars : goal.returns-clause-bars
returns-clause-bars g c = (table g (goal.at.returns-clause-bars g c).In_ok-list).count

pub returns-clause-forces : goal.returns-clause-forces
returns-clause-forces g c =
    rows_have_forces g.C.Spaced.reach_of g.C.Spring.length_of c.args.input.now.measures.now.gaps.list.now
    c.args.input.now.width
    c.args.input.now.measures.now.starts.now
    c.args.input.now.measures.now.others.now
    (is_forced (length c.args.input.now.measures.now.starts.now) c.args.input.now.forced.now) c.in_ok-rows.rows.rows
    (table g (goal.at.returns-clause-forces g c).In_ok-list)

pub returns-clause-exact : goal.returns-clause-exact
returns-clause-exact g c =
    let made = (goal.at.returns-clause-exact g c).In_ok-list in
    subst (λ spans.
    IsSpanList g.C.Spaced.reach_of g.C.Spring.length_of c.args.input.now.measures.now.gaps.list.now
    c.args.input.now.width
    c.args.input.now.measures.now.starts.now c.args.input.now.measures.now.others.now
    (is_forced (length c.args.input.now.measures.now.starts.now) c.args.input.now.forced.now) spans) (list g made)
    (rows_tell_spans g.C.Spaced.reach_of g.C.Spring.length_of c.args.input.now.measures.now.gaps.list.now
    c.args.input.now.width
    c.args.input.now.measures.now.starts.now
    c.args.input.now.measures.now.others.now
    (is_forced (length c.args.input.now.measures.now.starts.now) c.args.input.now.forced.now) c.in_ok-rows.rows.rows
    (table g made))
