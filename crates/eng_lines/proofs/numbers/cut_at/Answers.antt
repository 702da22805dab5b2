use Rattle.std.proofs.Common.{sym, ◌∙◌}
use Rattle.eng_lines.proofs.Words.{cut_some, cut_none}
use Rattle.eng_lines.proofs.numbers.cut_at.Goals as goal

pub returns-in-Some : goal.returns-in-Some
returns-in-Some c = rw (c.split_at.ensures.front, c.split_at-in-Some.ensures.back)
    (cut_some c.args.byte c.args.bytes.now c.in-Some.at (sym c.first_at.ensures ∙ c.in-Some.is))

pub returns-in-None : goal.returns-in-None
returns-in-None c = cut_none c.args.byte c.args.bytes.now (sym c.first_at.ensures ∙ c.in-None.is)
