use Rattle.std.proofs.Common.{◌≡◌, sym, ◌∙◌, true}
use Rattle.abc_pieces.specs.{declared.token.BracketOpening.BracketOpening, Forms.opening}
use Rattle.abc_pieces.proofs.piece.bracket.Goals as goal

pub returns-in-Ending-clause-read : goal.returns-in-Ending-clause-read
returns-in-Ending-clause-read c =
    let e : opening c.args.rest.now ≡ BracketOpening.Ending = sym c.opening.ensures ∙ c.in-Ending.is in
    rw e (c.ending.ensures.read c.args.bang true)
