use Rattle.std.proofs.Common.{◌∙◌, append-nil, sym, ap, arith}
use Rattle.std.proofs.lemmas.Option.{slice_get_past}
use Rattle.mus_laid.specs.Ranked.{inked}
use Rattle.mus_slots.specs.Voice.{written_of}
use Rattle.mus_slots.specs.Words.{words_in}
use Rattle.mus_marks.proofs.words.put_words_in.Goals as goal

pub returns-else-rank-len-clause-drawn : goal.returns-else-rank-len-clause-drawn
returns-else-rank-len-clause-drawn c =
    let pen = c.args.pen.now in
    let past = slice_get_past c.args.places.now pen.rank (omega (arith, c.len.ensures, c.if-rank-len.false)) in
    ap (λ marks. record pen { marks = marks }) (sym (append-nil pen.marks))
    ∙ ap (λ o. inked pen (words_in o (written_of c.args.first c.args.flat.now))) (sym past)
