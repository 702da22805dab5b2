use Rattle.std.proofs.Common.{◌∙◌, append-nil, sym, ap}
use Rattle.mus_laid.specs.Ranked.{inked}
use Rattle.mus_slots.specs.Voice.{written_of}
use Rattle.mus_slots.proofs.Words.{blank_words}
use Rattle.mus_marks.proofs.Silent.{written_blank}
use Rattle.mus_marks.proofs.events.put_placed_words.Goals as goal

pub returns-then-is_silent : goal.returns-then-is_silent
returns-then-is_silent c =
    let pen = c.args.pen.now in
    let flat = c.args.flat.now in
    let words = c.args.words in
    ap (λ marks. record pen { marks = marks }) (sym (append-nil pen.marks))
    ∙ ap (inked pen)
    (sym
    (blank_words (written_of words.first flat)
    (written_blank flat (sym c.is_silent.ensures ∙ c.if-is_silent.true) words.first) words.place))
