use Rattle.std.proofs.Common.{◌≡◌, ◌∙◌, ◌++◌, ◌∷◌, ◌<◌, ℕ, ap, subst, sym, length, take, drop, slice_index_or, arith}
use Rattle.std.proofs.lemmas.Grind.{common_steps}
use Rattle.std.proofs.lemmas.List.{take-append-le, take_all}
use Rattle.std.specs.Vec.Iter.{into_iter_items}
use Rattle.abc_signs.specs.Signs.{HasDrawableValues}
use Rattle.abc_events.specs.Leaves.{leaves_from}
use Rattle.abc_events.specs.Measures.{leaves_in}
use Rattle.abc_events.specs.Nesting.{TakesAnother, grown, no_tree}
use Rattle.abc_events.proofs.Taken.{all_left, count_left}
use Rattle.abc_events.proofs.measures.trees_of.Goals as goal

pub loop-sign-preserved : goal.loop-sign-preserved
loop-sign-preserved c =
    let old = c.loop-sign.trees.items in
    let made = c.put_sign.new.trees in
    let given : c.deref_mut.result.now ≡ c.loop-sign.trees.items = grind (arith, common_steps) in
    let long : length c.deref_mut.result.now ≡ c.args.n = grind (arith, common_steps) in
    let full : c.loop-sign.trees.len ≡ length made = grind (arith, common_steps) in
    let back : take c.loop-sign.trees.len (made ++ drop (length made) old) ≡ made =
    take-append-le c.loop-sign.trees.len made (drop (length made) old) (omega arith)
    ∙ take_all c.loop-sign.trees.len made (omega arith) in
    record {
      len = grind (arith, common_steps);
      ready =
          subst (λ ts. (k : ℕ) → k < c.args.n → TakesAnother (slice_index_or ts k no_tree).stack.items) (sym back)
          (λ k less. c.in_ok-put_sign.ensures.ready k (omega arith));
      trees = λ k less.
          ap (λ ts.
          grown (slice_index_or ts k no_tree)
          (leaves_in k
          (leaves_from c.args.words.now c.put_sign.new.at.event c.put_sign.new.at.id
          (into_iter_items c.next.new.self))))
          back
          ∙ (c.in_ok-put_sign.ensures.grown k (into_iter_items c.next.new.self) (omega arith)
          ∙ (ap (λ ts.
          grown (slice_index_or ts k no_tree)
          (leaves_in k
          (leaves_from c.args.words.now c.loop-sign.at.event c.loop-sign.at.id
          (c.in-Some.sign ∷ into_iter_items c.next.new.self))))
          given
          ∙ (ap (λ xs.
          grown (slice_index_or old k no_tree)
          (leaves_in k (leaves_from c.args.words.now c.loop-sign.at.event c.loop-sign.at.id xs)))
          (sym c.in-Some.ensures.steps.0)
          ∙ c.loop-sign.invariant.trees k less)));
      drawn =
          all_left HasDrawableValues (into_iter_items c.loop-sign.sign-iterator) (into_iter_items c.next.new.self)
          c.in-Some.sign c.in-Some.ensures.steps.0 c.loop-sign.invariant.drawn;
      count =
          count_left (into_iter_items c.loop-sign.sign-iterator) (into_iter_items c.next.new.self) c.in-Some.sign _ _
          c.in-Some.ensures.steps.0 c.in-Some.ensures.steps.1 c.loop-sign.invariant.count;
    }
