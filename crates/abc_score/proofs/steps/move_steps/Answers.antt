use Rattle.std.proofs.Common.{◌≡◌, ◌∙◌, [], ap, arith, map, rules, subst, sym}
use Rattle.std.proofs.lemmas.List.{nil_from_length}
use Rattle.std.specs.Vec.Iter.{into_iter_items}
use Rattle.abc_events.proofs.Taken.{count_left}
use Rattle.abc_items.specs.Voices.{voice_next}
use Rattle.abc_score.specs.Steps.{with_items}
use Rattle.abc_score.specs.Voices.{AreDistinctIds}
use Rattle.abc_score.proofs.Moving.{ids_kept, more_moved, none_added}
use Rattle.abc_score.proofs.steps.move_steps.Goals as goal

pub loop-item-preserved : goal.loop-item-preserved
loop-item-preserved c =
    let old = into_iter_items c.loop-item.item-iterator in let left = into_iter_items c.next.new.self in
    let item = c.in-Some.item in let current = c.loop-item.current in let voices = c.loop-item.voices in
    let cut = c.in-Some.ensures.steps.0 in let moved = c.in_ok-move_item.ensures in
    record {
      voices =
          ap (λ now. map (with_items now left) c.move_item.new.voices) moved.current
          ∙ ap (map (with_items (voice_next item current) left)) moved.voices
          ∙ more_moved current item left voices
          ∙ ap (λ items. map (with_items current items) voices) (sym cut)
          ∙ c.loop-item.invariant.voices;
      apart = rw moved.voices (subst AreDistinctIds (sym (ids_kept current item voices)) c.loop-item.invariant.apart);
      count = count_left old left item _ _ cut c.in-Some.ensures.steps.1 c.loop-item.invariant.count;
    }

pub returns : goal.returns
returns c =
    let left = into_iter_items c.loop-item.item-iterator in
    let none : left ≡ [] = nil_from_length left
    (omega (arith, c.in-None.ensures.steps.0, c.loop-item.invariant.count)) in
    let all : into_iter_items c.into_iter-item-iterator.result ≡ c.args.items = search rules in
    sym (none_added c.loop-item.voices)
    ∙ ap (λ items. map (with_items c.loop-item.current items) c.loop-item.voices) (sym none)
    ∙ c.loop-item.invariant.voices
    ∙ ap (λ items. map (with_items c.args.unnamed items) c.args.voices.now) all
