use Rattle.std.proofs.Common.{◌≡◌, ℕ, ◌+◌, ◌++◌, ◌<◌, ◌∷◌, [], ◌-◌, flat_map, map, take, drop, length, length-append}
use Rattle.std.proofs.Common.{false, slice_index_or, arith, sym, ◌∙◌, ap, subst, rules}
use Rattle.std.proofs.lemmas.List.{length-map, take_at}
use Rattle.lay_springs.specs.Place.{HasPlaced}
use Rattle.lay_spans.specs.Columns.{measures_from, span_columns}
use Rattle.lay_spans.specs.SpanList.{HasForce, IsForce}
use Rattle.lay_spans.proofs.Adding.{columns_some}
use Rattle.lay_spans.proofs.Fitting.{force_of, seen_as, still_above, never_stands}
use Rattle.lay_spans.proofs.Growing.{placed_more, seen_more, forces_more, free_more, stops_at, stops_after}
use Rattle.lay_spans.proofs.rows.row_from.Goals.{After-as_slice-cols, After-greatest_force, In_ok-push}
use Rattle.lay_spans.proofs.rows.row_from.Goals as goal

columns : (g : _) (c : After-as_slice-cols g)
    → map (λ s. s.column.now) c.as_slice-cols.result.now
    ≡ span_columns c.args.maker.now.measures.now.starts.now c.args.maker.now.measures.now.others.now c.args.a
    (c.loop-m.m + 1)
columns g c =
    ap (λ seen. map (λ s. s.column.now) seen) c.as_slice-cols.ensures
    ∙ seen_more (λ s. s.column.now) c.loop-m.seen c.see.new.seen c.args.maker.now.measures.now.starts.now
    c.args.maker.now.measures.now.others.now c.args.a c.loop-m.m
    (let l = c.loop-m.invariant.count in omega arith) (let l = c.loop-m-test.true in omega arith)
    c.args.maker.now.measures.now.measured.same c.loop-m.invariant.columns
    (c.in_ok-see.ensures ∙ ap (λ r. map (λ s. s.column.now) c.loop-m.seen ++ r) c.measure.ensures)

-- what the search wrote is in the borrowed slices
at_is : (g : _) (c : After-greatest_force g)
    → take c.resize.new.self.len
    (c.greatest_force.new.at ++ drop (length c.greatest_force.new.at) c.resize.new.self.items)
    ≡ c.greatest_force.new.at
at_is g c =
    take_at c.greatest_force.new.at _ c.resize.new.self.len
    (c.greatest_force.auto.at ∙ (ap (λ at. length at) c.deref_mut.ensures.value ∙ sym c.resize.new.self.ok.0))

-- no longer span fits
pub returns-in_default-clause-row : goal.returns-in_default-clause-row
returns-in_default-clause-row g c =
    let b = (goal.at.returns-in_default-clause-row g c).After-as_slice-cols in
    stops_at g.C.Spaced.reach_of g.C.Spring.length_of c.args.maker.now.measures.now.gaps.list.now c.args.maker.now.width
    c.args.maker.now.measures.now.starts.now c.args.maker.now.measures.now.others.now
    (λ b. slice_index_or c.args.maker.now.marks.now b false)
    c.args.a c.loop-m.m c.loop-m.row c.args.maker.now.measures.now.measured c.requires.inside
    (let l = c.loop-m-test.true in omega arith)
    c.loop-m.invariant.count c.loop-m.invariant.each
    (never_stands (λ s. s.column.now) g.C.Spaced.reach_of g.C.Spring.length_of
    c.args.maker.now.measures.now.gaps.list.now
    c.args.maker.now.width
    c.as_slice-cols.result.now
    (span_columns c.args.maker.now.measures.now.starts.now c.args.maker.now.measures.now.others.now c.args.a
    (c.loop-m.m + 1))
    (columns g b)
    c.in_default.ensures.none)

count : (g : _) (c : In_ok-push g) → c.args.a + length c.push.new.self ≡ c.loop-m.m + 1
count g c =
    let k : length c.push.new.self ≡ length (c.loop-m.row ++ c.in-Some.force ∷ []) =
    ap (λ row. length row) c.in_ok-push.ensures.ok in
    let n = length-append c.loop-m.row (c.in-Some.force ∷ []) in
    let i = c.loop-m.invariant.count in omega arith

-- the span with this measure
module _ (g : _) (c : In_ok-push g)
    (seen : map (λ s. s.column.now) c.as_slice-cols.result.now
    ≡ span_columns c.args.maker.now.measures.now.starts.now c.args.maker.now.measures.now.others.now c.args.a
    (c.loop-m.m + 1)) where
  abbrev Has : ℕ → ℕ → Type 0
  Has b f =
      HasForce g.C.Spaced.reach_of g.C.Spring.length_of c.args.maker.now.measures.now.gaps.list.now
      c.args.maker.now.width
      c.args.maker.now.measures.now.starts.now c.args.maker.now.measures.now.others.now
      (λ b. slice_index_or c.args.maker.now.marks.now b false) c.args.a b f

  force : IsForce g.C.Spaced.reach_of g.C.Spring.length_of c.args.maker.now.measures.now.gaps.list.now
      c.args.maker.now.width
      (span_columns c.args.maker.now.measures.now.starts.now c.args.maker.now.measures.now.others.now c.args.a
      (c.loop-m.m + 1))
      c.in-Some.force
  force =
      force_of (λ s. s.column.now) g.C.Spaced.reach_of g.C.Spring.length_of c.args.maker.now.measures.now.gaps.list.now
      c.args.maker.now.width c.loop-m.most
      c.as_slice-cols.result.now
      (span_columns c.args.maker.now.measures.now.starts.now c.args.maker.now.measures.now.others.now c.args.a
      (c.loop-m.m + 1))
      c.in-Some.force seen
      c.loop-m.invariant.most
      c.in-Some.ensures.bound c.in-Some.ensures.fits c.in-Some.ensures.greatest
      (still_above g.C.Spaced.reach_of g.C.Spring.length_of c.args.maker.now.measures.now.gaps.list.now
      c.args.maker.now.width
      c.loop-m.most c.args.maker.now.measures.now.starts.now
      c.args.maker.now.measures.now.others.now c.args.a c.loop-m.m
      c.args.maker.now.measures.now.measured c.requires.inside (let l = c.loop-m-test.true in omega arith)
      c.loop-m.invariant.above)

  has : Has (c.loop-m.m + 1) c.in-Some.force
  has = record { free = λ h. c.loop-m.invariant.free h.0 h.1 h.2 h.3; pressed = force }

  each : (k : ℕ) → k < length c.push.new.self → Has (c.args.a + 1 + k) (slice_index_or c.push.new.self k 0)
  each =
      subst (λ row. (k : ℕ) → k < length row → Has (c.args.a + 1 + k) (slice_index_or row k 0))
      (sym c.in_ok-push.ensures.ok)
      (forces_more g.C.Spaced.reach_of g.C.Spring.length_of c.args.maker.now.measures.now.gaps.list.now
      c.args.maker.now.width
      c.args.maker.now.measures.now.starts.now
      c.args.maker.now.measures.now.others.now (λ b. slice_index_or c.args.maker.now.marks.now b false)
      c.args.a c.loop-m.m c.loop-m.row c.in-Some.force c.loop-m.invariant.count c.loop-m.invariant.each has)

pub returns-then-marks-m-clause-row : goal.returns-then-marks-m-clause-row
returns-then-marks-m-clause-row g c =
    let b = (goal.at.returns-then-marks-m-clause-row g c).After-as_slice-cols in
    let pushed = (goal.at.returns-then-marks-m-clause-row g c).In_ok-push in
    stops_after g.C.Spaced.reach_of g.C.Spring.length_of c.args.maker.now.measures.now.gaps.list.now
    c.args.maker.now.width
    c.args.maker.now.measures.now.starts.now
    c.args.maker.now.measures.now.others.now (λ b. slice_index_or c.args.maker.now.marks.now b false)
    c.args.a c.loop-m.m c.push.new.self (let l = c.loop-m-test.true in omega arith) (count g pushed)
    (let l = c.loop-m.invariant.count in omega arith)
    (each g pushed (columns g b))
    (search rules)

pub loop-m-preserved : goal.loop-m-preserved
loop-m-preserved g c =
    let b = (goal.at.loop-m-preserved g c).After-as_slice-cols in
    let pushed = (goal.at.loop-m-preserved g c).In_ok-push in
    let pressed = force g pushed (columns g b) in
    let l = c.loop-m.invariant.count in let lent = (goal.at.loop-m-preserved g c).After-greatest_force in
    record {
      columns = sym (ap (λ seen. map (λ s. s.column.now) seen) c.as_slice-cols.ensures) ∙ columns g b;
      count = count g pushed;
      each = each g pushed (columns g b);
      free =
          free_more (λ b. slice_index_or c.args.maker.now.marks.now b false) c.args.a c.loop-m.m (search rules)
          c.loop-m.invariant.free;
      most = let b = pressed.bound in omega arith;
      room =
          ap (λ at. length at) (at_is g lent)
          ∙ (c.greatest_force.auto.at ∙ (c.deref_mut.ensures.len ∙ (c.in_ok-resize.ensures.len
          ∙ (sym (length-map c.as_slice-cols.result.now (λ s. s.column.now))
          ∙ ap (λ cs. length cs) (columns g b)))));
      placed = rw (at_is g lent) (subst (λ T. T)
          (seen_as (λ s. s.column.now) g.C.Spaced.reach_of g.C.Spring.length_of
          (λ n r l.
          HasPlaced n r c.args.maker.now.measures.now.gaps.list.now l c.greatest_force.new.placed
          c.greatest_force.new.at
          c.greatest_force.new.front)
          c.as_slice-cols.result.now
          (span_columns c.args.maker.now.measures.now.starts.now c.args.maker.now.measures.now.others.now
          c.args.a (c.loop-m.m + 1))
          (columns g b))
          c.greatest_force.ensures.placed);
      above = λ g past within. (omega arith, pressed.greatest g past within);
    }

pub loop-m-init : goal.loop-m-init
loop-m-init g c =
    let e : c.args.a - c.args.a ≡ 0 = omega arith in
    let none : span_columns c.args.maker.now.measures.now.starts.now c.args.maker.now.measures.now.others.now c.args.a
    c.args.a
    ≡ [] =
    ap (λ k. flat_map (λ measure. measure) (take k (measures_from c.args.maker.now.measures.now.starts.now
    c.args.maker.now.measures.now.others.now c.args.a))) e in
    record {
      columns = ap (λ seen. map (λ s. s.column.now) seen) c.clear-2.ensures.items ∙ sym none;
      count = let row = ap (λ row. length row) c.in_ok-row.ensures in omega arith;
      each = λ k l. let row = ap (λ row. length row) c.in_ok-row.ensures in absurd (omega arith);
      free = λ f l k is. absurd (omega arith);
      most = omega arith;
      room = ap (λ at. length at) c.clear.ensures.items ∙ sym (ap (λ cs. length cs) none);
      placed = c.none.ensures _ _ _ _ _ _;
      above = λ f l k. absurd (omega arith);
    }

pub greatest_force-requires-clause-some : goal.greatest_force-requires-clause-some
greatest_force-requires-clause-some g c =
    let count =
    ap (λ cs. length cs) (columns g (goal.at.greatest_force-requires-clause-some g c).After-as_slice-cols) in
    let same = length-map c.as_slice-cols.result.now (λ s. s.column.now) in
    let some = columns_some c.args.maker.now.measures.now.starts.now c.args.maker.now.measures.now.others.now c.args.a
    (c.loop-m.m + 1)
    (let l = c.loop-m.invariant.count in omega arith)
    (c.args.maker.now.measures.now.measured.begun c.args.a c.requires.inside) in
    omega (arith, count, same, some)

pub greatest_force-requires-clause-placed : goal.greatest_force-requires-clause-placed
greatest_force-requires-clause-placed g c =
    placed_more (λ s. s.column.now) g.C.Spaced.reach_of g.C.Spring.length_of c.args.maker.now.measures.now.gaps.list.now
    c.loop-m.placed c.loop-m.at.items c.deref_mut.result.now _ c.loop-m.front c.as_slice-cols.result.now
    c.args.maker.now.measures.now.starts.now c.args.maker.now.measures.now.others.now c.args.a c.loop-m.m
    (let l = c.loop-m.invariant.count in omega arith) (let l = c.loop-m-test.true in omega arith)
    c.args.maker.now.measures.now.measured.same
    (columns g (goal.at.greatest_force-requires-clause-placed g c).After-as_slice-cols) c.loop-m.invariant.room
    (c.deref_mut.ensures.value ∙ c.in_ok-resize.ensures.items) c.loop-m.invariant.placed
