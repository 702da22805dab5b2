use Rattle.std.proofs.Common.{◌≡◌, ℕ, ◌+◌, ◌<◌, ◌≤◌, List, [], ◌∷◌, ◌++◌, drop, length, slice_index_or, sym, subst}
use Rattle.std.proofs.Common.{arith}
use Rattle.std.proofs.lemmas.List.{append-nil, drop_all, drop_more}
use Rattle.std.proofs.lemmas.List.Elements.{All-append, All-cons, All-nil}
use Rattle.std.proofs.lemmas.Slice.Zip.{all_zipped_more}
use Rattle.std.specs.List.{All, AllZip}
use Rattle.mus_laid.specs.Boxes.{AreGoodMarks}
use Rattle.mus_laid.specs.declared.laid.SystemMarks.{SystemMarks}
use Rattle.lay_springs.specs.declared.margin.Placed.{Placed}
use Rattle.lay_tune.specs.Systems.{AllSpans, CanBeSet, EachSpan, IsSetSystem, IsStack}
use Rattle.lay_tune.proofs.Rows.{span_more}
use Rattle.lay_tune.proofs.systems.set_systems.Goals as goal

abbrev Good : SystemMarks → Type 0
Good m = All (λ staff. AreGoodMarks staff.marks) m.staves

pub loop-b-preserved : goal.loop-b-preserved
loop-b-preserved c =
    let s = c.args.measured.now.drawn.score.now in
    let Is : ℕ → ℕ → SystemMarks → Placed → Type 0 =
    IsSetSystem c.args.measured.now.drawn.score.now c.args.measured.now.width in
    let breaks = c.args.breaks.now in
    let i = c.loop-b.b-index in
    let b = slice_index_or c.args.breaks.now c.loop-b.b-index 0 in
    let inside : c.loop-b.b-index < length c.args.breaks.now = grind (arith, c.loop-b-test.true) in
    let next : drop c.loop-b.b-index c.args.breaks.now
    ≡ slice_index_or c.args.breaks.now c.loop-b.b-index 0 ∷ drop (c.loop-b.b-index + 1) c.args.breaks.now =
    drop_more c.args.breaks.now c.loop-b.b-index 0 inside in
    record {
      systems =
          subst (λ marks.
          (more : List SystemMarks) (at : List Placed)
          → EachSpan Is b (drop (i + 1) breaks) more at
          → EachSpan Is 0 breaks (marks ++ more) (c.push-in-loop-b.new.self ++ at))
          (sym c.in_ok-push.ensures.ok)
          (subst (λ placed.
          (more : List SystemMarks) (at : List Placed)
          → EachSpan Is b (drop (i + 1) breaks) more at
          → EachSpan Is 0 breaks ((c.loop-b.marks ++ c.in_ok-set.set.marks ∷ []) ++ more) (placed ++ at))
          (sym c.in_ok-push-2.ensures.ok)
          (span_more Is breaks c.loop-b.marks c.loop-b.placed c.in_ok-set.set.marks c.in_ok-set.set.placed c.loop-b.a b
          i next c.loop-b.invariant.systems c.in_ok-set.ensures.system));
      heights = subst (λ marks. AllZip (IsStack s) marks c.push-in-loop-b-2.new.self) (sym c.in_ok-push.ensures.ok)
          (subst (λ heights. AllZip (IsStack s) (c.loop-b.marks ++ c.in_ok-set.set.marks ∷ []) heights)
          (sym c.in_ok-push-3.ensures.ok)
          (all_zipped_more (IsStack s) c.loop-b.marks c.loop-b.heights c.in_ok-set.set.marks c.in_ok-set.set.heights
          c.loop-b.invariant.heights c.in_ok-set.ensures.heights));
      good = subst (λ marks. All Good marks) (sym c.in_ok-push.ensures.ok)
          (All-append Good c.loop-b.marks (c.in_ok-set.set.marks ∷ []) c.loop-b.invariant.good
          (All-cons Good c.in_ok-set.set.marks [] c.in_ok-set.ensures.good (All-nil Good)));
      fits =
          (subst (λ bs. AllSpans (CanBeSet s c.args.measured.now.width c.args.rows.now.rows) c.loop-b.a bs)
          next c.loop-b.invariant.fits).1;
    }

pub returns-clause-systems : goal.returns-clause-systems
returns-clause-systems c =
    let past : length c.args.breaks.now ≤ c.loop-b.b-index = grind (arith, c.loop-b-test.false) in
    let none = drop_all c.loop-b.b-index c.args.breaks.now past in
    subst (λ marks.
    EachSpan (IsSetSystem c.args.measured.now.drawn.score.now c.args.measured.now.width) 0 c.args.breaks.now marks
    c.loop-b.placed)
    (append-nil c.loop-b.marks)
    (subst (λ placed.
    EachSpan (IsSetSystem c.args.measured.now.drawn.score.now c.args.measured.now.width) 0 c.args.breaks.now
    (c.loop-b.marks ++ []) placed)
    (append-nil c.loop-b.placed)
    (c.loop-b.invariant.systems [] []
    (subst (λ bs.
    EachSpan (IsSetSystem c.args.measured.now.drawn.score.now c.args.measured.now.width) c.loop-b.a bs [] [])
    (sym none) tt)))
