use Rattle.std.proofs.Common.{◌∙◌, ◌-◌, ◌+◌, [], None, sym, subst, ap, arith}
use Rattle.std.proofs.lemmas.List.{get_or_default}
use Rattle.std.specs.List.{slice_index_or}
use Rattle.lay_columns.specs.Measures.{further_of}
use Rattle.lay_tune.specs.Measures.{EachMeasure, IsMeasure}
use Rattle.lay_tune.proofs.Joins.{measure_more, other_of}
use Rattle.lay_tune.proofs.measures.others_of.Goals as goal

pub loop-m-preserved : goal.loop-m-preserved
loop-m-preserved c =
    let s = c.args.s.now in
    let m = c.loop-m.m in
    let less = c.loop-m-test.true in
    let starts = c.args.columns.now.starts in
    let own = c.args.columns.now.own in
    let count = c.requires.starts.count in let owned = c.requires.own.count in
    let begun = c.as_slice-begun.ensures
    ∙ c.index-starts-m.is
    ∙ ap (λ xs. slice_index_or xs m c.index-starts-m.result) c.as_slice-starts.ensures
    ∙ get_or_default starts m c.index-starts-m.result [] (omega (arith, less, count)) in
    let further = c.index-own-m.is ∙ ap (λ xs. slice_index_or xs m c.index-own-m.result) c.as_slice-own.ensures
    ∙ get_or_default own m c.index-own-m.result None (omega (arith, less, owned)) in
    let same = c.further_of-columns.ensures
    ∙ ap (λ b. further_of m b c.index-own-m.result) begun
    ∙ ap (further_of m (slice_index_or starts m [])) further in
    subst (EachMeasure (λ m. IsMeasure s (m - 1) m) (m + 1)) (sym c.in_ok-push.ensures.ok)
    (measure_more (λ m. IsMeasure s (m - 1) m) m c.loop-m.others c.further_of-columns.result.now c.loop-m.invariant
    (subst (IsMeasure s (m - 1) m) (sym same)
    (other_of s m starts own c.requires.good (c.requires.heard (omega (arith, less))) less c.requires.starts
    c.requires.own)))
