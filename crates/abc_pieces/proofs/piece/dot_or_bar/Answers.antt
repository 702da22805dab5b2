use Rattle.std.proofs.Common.{refl}
use Rattle.abc_pieces.specs.Reading.{bar_read, token_of}
use Rattle.abc_pieces.proofs.PieceText.{letter_or_bar}
use Rattle.abc_pieces.proofs.piece.dot_or_bar.Goals as goal

pub returns-in-None-clause-read : goal.returns-in-None-clause-read
returns-in-None-clause-read c =
    λ bang.
    letter_or_bar (bar_read c.args.bytes.now) (token_of bang c.plain.result.found) c.plain.result.after c.args.rest.now
    c.plain.result.rest.now (c.in-None.ensures.read bang)
    (rw (c.plain.ensures.found, c.plain.ensures.rest, c.plain.ensures.after) refl)
