use Rattle.std.proofs.Common.{◌≡◌, ◌∙◌, sym, ap, [], None, rules, arith, slice_index_or}
use Rattle.std.proofs.lemmas.List.{nil_from_length}
use Rattle.std.specs.Option.{option_or}
use Rattle.std.specs.Vec.Iter.{into_iter_items}
use Rattle.abc_words.{specs.Words.word_of, proofs.Places.from_places, proofs.WordLaws.or_none}
use Rattle.abc_words.proofs.words.verse_words.Goals as goal

pub returns : goal.returns
returns c =
    let none : into_iter_items c.loop-one.one-iterator ≡ [] = nil_from_length (into_iter_items c.loop-one.one-iterator)
    (omega (arith, c.in-None.ensures.steps.0, c.loop-one.invariant.left)) in
    let all : into_iter_items c.into_iter-one-iterator.result ≡ c.args.sung = search rules in
    from_places (word_of c.args.sung) c.loop-one.words.items c.args.count None c.loop-one.invariant.len
    (λ k less.
    sym (or_none (slice_index_or c.loop-one.words.items k None))
    ∙ (sym (ap (λ s. option_or (slice_index_or c.loop-one.words.items k None) (word_of s k)) none)
    ∙ (c.loop-one.invariant.words k less ∙ ap (λ s. word_of s k) all)))
