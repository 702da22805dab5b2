use Rattle.{std.proofs.Common.{rules}, abc_pieces.proofs.PieceText.{ending_is}}
use Rattle.abc_pieces.proofs.piece.ending.Goals as goal

pub returns-clause-read : goal.returns-clause-read
returns-clause-read c = λ bang bracket.
    let k = c.in_ok-first in
    rw (c.plain.ensures.found, c.plain.ensures.rest, c.plain.ensures.after)
    (ending_is bracket c.args.bytes.now k.first.now k.rest.now c.ending_len.result _ _ (search rules) (search rules)
    c.ending_len.ensures.value c.split_at.ensures.front c.split_at.ensures.back)
