use Rattle.std.{proofs.Common.◌∙◌, proofs.Common.ap, proofs.Common.map, specs.List.range_with_len}
use Rattle.abc_words.{specs.Words.word_of, proofs.Places.made_more, proofs.WordLaws.verse_places}
use Rattle.abc_words.proofs.words.all_words.Goals as goal

pub loop-verse-preserved : goal.loop-verse-preserved
loop-verse-preserved c =
    made_more (verse_places c.args.rows.now c.args.count) c.loop-verse.verse c.loop-verse.all c.push.new.self
    c.in_ok-verse_words.field-0
    (c.in_ok-verse_words.ensures
    ∙ ap (λ sung. map (word_of sung) (range_with_len 0 c.args.count)) c.in_ok-verse_sung.ensures)
    c.loop-verse.invariant c.in_ok-push.ensures.ok
