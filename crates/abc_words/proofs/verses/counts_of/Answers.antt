use Rattle.std.proofs.{Common.◌≡◌, Common.take, Common.ap, Common.◌∙◌, lemmas.List.take_all}
use Rattle.abc_words.{specs.Verses.number_on, proofs.Places.from_places}
use Rattle.abc_words.proofs.verses.counts_of.Goals as goal

pub returns : goal.returns
returns c =
    let all : take c.loop-verse.verse-index c.args.verses.now ≡ c.args.verses.now =
    take_all c.loop-verse.verse-index c.args.verses.now c.loop-verse-test.false in
    from_places (λ row. number_on row c.args.verses.now) c.loop-verse.counts.items c.args.rows 0
    c.loop-verse.invariant.len (λ k less. c.loop-verse.invariant.counts k less ∙ ap (number_on k) all)
