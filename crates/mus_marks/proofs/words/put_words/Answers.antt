use Rattle.std.proofs.Common.{◌∙◌, sym}
use Rattle.mus_marks.proofs.Drawing.{silent_drawn, silent_passed}
use Rattle.mus_marks.proofs.words.put_words.Goals as goal

pub returns-then-is_silent-clause-drawn : goal.returns-then-is_silent-clause-drawn
returns-then-is_silent-clause-drawn c =
    silent_drawn c.args.keys.now c.args.places.now c.args.first c.args.measure c.args.e.now
    (sym c.is_silent.ensures ∙ c.if-is_silent.true) c.args.pen.now.marks

pub returns-then-is_silent-clause-places : goal.returns-then-is_silent-clause-places
returns-then-is_silent-clause-places c =
    silent_passed c.args.keys.now c.args.places.now c.args.first c.args.measure c.args.e.now
    (sym c.is_silent.ensures ∙ c.if-is_silent.true)
